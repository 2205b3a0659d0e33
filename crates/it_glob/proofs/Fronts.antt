-- The literal front of a pattern.
use Rattle.std.proofs.Common.{◌≡◌, ℕ, ◌+◌, Bool, true, false, cond, ◌&&◌, ◌⊎◌, inl, inr, List, []}
use Rattle.std.proofs.Common.{◌∷◌, ◌++◌, Option, Some, None, option_map, unwrap_or, take, length}
use Rattle.std.proofs.Common.{eqb, arith, refl, ap, sym, ◌∙◌, subst, append_assoc, ◌-◌}
use Rattle.std.proofs.Common.{◌<◌, length-append}
use Rattle.std.proofs.Math.Seq.{take-append_seam}
use Rattle.std.specs.List.{slice_range}
use Rattle.std.specs.Str.{chars, encode_utf8_all, all_scalars, IsUtf8}
use Rattle.std.specs.Char.{encode_utf8}
use Rattle.std.proofs.Math.Utf8.{scalar as is_scalar}
use Rattle.std.proofs.lemmas.Bool.Decides.{nat_tests}
use Rattle.std.proofs.lemmas.List.{append_cancel_left}
use Rattle.std.proofs.lemmas.Str.{encodes-chars, scalars-chars}
use Rattle.it_glob.specs.Pattern.{items_of, items_after, item_at, plain_item, set_at, set_of}
use Rattle.it_glob.specs.Pattern.{negation_of, body_len, front_of, MatchesChars, Matches}
use Rattle.it_glob.specs.Pattern.{BeginsWith}
use Rattle.it_glob.specs.declared.item.Item.{Item}
use Rattle.it_glob.specs.declared.item.Item.TheVariants.{Star, Any, OneOf, Exactly}

-- an item list that matches takes its front first
front_taken : (items : List Item) (cs : List ℕ) → MatchesChars items cs
    → BeginsWith (encode_utf8_all cs) (front_of items)
front_taken [] cs m = (encode_utf8_all cs, refl)
front_taken (Star ∷ items) cs m = (encode_utf8_all cs, refl)
front_taken (Any ∷ items) cs m = (encode_utf8_all cs, refl)
front_taken (OneOf negated body ∷ items) cs m = (encode_utf8_all cs, refl)
front_taken (Exactly c ∷ items) cs m =
    let more = front_taken items m.1 m.4 in
    let whole : encode_utf8_all cs ≡ encode_utf8 c ++ encode_utf8_all m.1 =
    ap encode_utf8_all (m.2 ∙ ap (λ d. d ∷ m.1) m.3) in (
      more.0,
      whole ∙ ap (λ l. encode_utf8 c ++ l) more.1
          ∙ sym (append_assoc (encode_utf8 c) (front_of items) more.0),
    )

pub matching_begins : (items : List Item) (path : List ℕ) → IsUtf8 path → Matches items path
    → BeginsWith path (front_of items)
unfolding Matches
matching_begins items path u m = subst (λ p. BeginsWith p (front_of items)) (encodes-chars path u)
    (front_taken items (chars path) m)

-- what a character begins is the character itself, or has no part in the front
abbrev IsLiteralOrEnds : ℕ → Item × ℕ → Type 0
IsLiteralOrEnds c p = (p ≡ (Exactly c, 0)) ⊎ ((items : List Item) → front_of (p.0 ∷ items) ≡ [])

plain_kind : (c : ℕ) → IsLiteralOrEnds c (plain_item c, 0)
plain_kind c = go (eqb c 42) (eqb c 63)
  where
    go : (star any : Bool) → IsLiteralOrEnds c (cond star Star (cond any Any (Exactly c)), 0)
    go true any = inr (λ items. refl)
    go false true = inr (λ items. refl)
    go false false = inl refl

set_kind : (c : ℕ) (negated : Bool) (cs : List ℕ)
    → IsLiteralOrEnds c (unwrap_or {T = Item × ℕ} (set_of (negated, cs)) (plain_item c, 0))
set_kind c negated cs = go (body_len cs)
  where
    go : (len : Option ℕ)
        → IsLiteralOrEnds c
        (unwrap_or {T = Item × ℕ}
        (option_map (λ n. (OneOf negated (take n cs), cond negated (n + 2) (n + 1))) len)
        (plain_item c, 0))
    go None = plain_kind c
    go (Some n) = inr (λ items. refl)

bracket_kind : (c : ℕ) (cs : List ℕ) → IsLiteralOrEnds c (unwrap_or (set_at cs) (plain_item c, 0))
bracket_kind c cs = set_kind c (negation_of cs).0 (negation_of cs).1

item_kind : (c : ℕ) (cs : List ℕ) → IsLiteralOrEnds c (item_at c cs)
item_kind c cs =
    elim (eqb c 91) as (λ b. IsLiteralOrEnds c (cond b (unwrap_or (set_at cs) (plain_item c, 0))
    (plain_item c, 0))) [
      | true ↦ bracket_kind c cs
      | false ↦ plain_kind c
    ]

some_byte : (c : ℕ) → 0 < length (encode_utf8 c)
unfolding encode_utf8
some_byte c = grind (arith, nat_tests)

-- items that are all in the front of the characters they are read from match these alone
abbrev MatchesAlone : List ℕ → List ℕ → List Item → Type 0
MatchesAlone cs ds items =
    front_of items ≡ encode_utf8_all cs → MatchesChars items ds → ds ≡ cs

alone : (cs ds : List ℕ) → MatchesAlone cs ds (items_after 0 cs)
alone [] ds = λ e m. m
alone (c ∷ cs) ds = elim (item_kind c cs) [
  | inl is ↦ subst (λ p. MatchesAlone (c ∷ cs) ds (p.0 ∷ items_after p.1 cs)) (sym is)
      (λ e m.
      let rest = alone cs m.1 (append_cancel_left (encode_utf8 c) _ _ e) m.4 in
      m.2 ∙ ap (λ d. d ∷ m.1) m.3 ∙ ap (λ l. c ∷ l) rest)
  | inr ends ↦ λ e m.
      let none : length (encode_utf8 c ++ encode_utf8_all cs) ≡ 0 = ap length
      (sym e ∙ ends (items_after (item_at c cs).1 cs)) in
      absurd (omega (arith, none, some_byte c, length-append (encode_utf8 c) (encode_utf8_all cs)))
]

-- a pattern that is its own front matches its text alone
pub front_alone : (text path : List ℕ) → IsUtf8 text → front_of (items_of text) ≡ text
    → IsUtf8 path → Matches (items_of text) path → path ≡ text
unfolding items_of Matches
front_alone text path u whole v matches =
    let same = alone (chars text) (chars path) (whole ∙ sym (encodes-chars text u)) matches in
    sym (encodes-chars path v) ∙ ap encode_utf8_all same ∙ encodes-chars text u

all_true : (a b : Bool) → (a && b) ≡ true → (a ≡ true) × (b ≡ true)
all_true true true e = (refl, refl)
all_true true false e = cc
all_true false b e = cc

-- a pattern's text begins with its front, and a character begins after that
record Continues (cs front : List ℕ) : Type 0 where
  pub rest : List ℕ
  pub are : all_scalars rest ≡ true
  pub splits : encode_utf8_all cs ≡ front ++ encode_utf8_all rest

front_first : (cs : List ℕ) → all_scalars cs ≡ true → Continues cs (front_of (items_after 0 cs))
front_first [] s = record { rest = []; are = refl; splits = refl }
front_first (c ∷ cs) s = elim (item_kind c cs) [
  | inl e ↦ let more = front_first cs (all_true (is_scalar c) (all_scalars cs) s).1 in
      subst (λ p. Continues (c ∷ cs) (front_of (p.0 ∷ items_after p.1 cs))) (sym e) (record {
        rest = more.rest;
        are = more.are;
        splits = ap (λ l. encode_utf8 c ++ l) more.splits
            ∙ sym (append_assoc (encode_utf8 c) (front_of (items_after 0 cs))
            (encode_utf8_all more.rest));
      })
  | inr ends ↦ record {
    rest = c ∷ cs;
    are = s;
    splits = ap (λ l. l ++ encode_utf8_all (c ∷ cs))
        (sym (ends (items_after (item_at c cs).1 cs)));
  }
]

-- the front of a pattern that is a text, and the text after it
pub split_at_front : (text : List ℕ) → IsUtf8 text → (rest : List ℕ) × IsUtf8 rest
    × (text ≡ front_of (items_of text) ++ rest)
unfolding items_of
split_at_front text u =
    let f = front_first (chars text) (scalars-chars text u) in
    (encode_utf8_all f.rest, (f.rest, (f.are, refl)), sym (encodes-chars text u) ∙ f.splits)

-- the slice of a text as long as its front is the front
pub slice_range-front : (text front rest : List ℕ) → text ≡ front ++ rest
    → slice_range text 0 (length front) ≡ front
slice_range-front text front rest e =
    let len : length front - 0 ≡ length front = omega arith in
    ap (λ n. take n text) len ∙ ap (take (length front)) e ∙ take-append_seam front rest
