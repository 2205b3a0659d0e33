-- Names that were seen, in a set of borrowed texts.
use Rattle.std.proofs.Common.{◌≡◌, ℕ, zero, suc, ◌+◌, ◌<◌, ◌||◌, List, [], ◌∷◌, ◌++◌, length, map}
use Rattle.std.proofs.Common.{take, drop, get_or, Bool, true, false, true≢false, not, cond, Bor}
use Rattle.std.proofs.Common.{Ordering, is_eq, nat_cmp, refl, sym, ap, ◌∙◌, arith}
use Rattle.std.specs.Cmp.Lexicographic.{slice_cmp}
use Rattle.std.specs.List.{IsDistinct, list_any}
use Rattle.std.specs.Str.{bytes_eq}
use Rattle.std.proofs.lemmas.List.{take_more, map-append}
use Rattle.std.proofs.lemmas.Cmp.{nat_list_eq_equiv}
use Rattle.std.proofs.lemmas.List.Folds.{list_any-append}
use Rattle.std.proofs.lemmas.Map.Keys.{IsDistinct-push}
use Rattle.std.proofs.lemmas.Map.Text.{is_eq-slice_cmp}
use Rattle.it_docs.specs.Repeats.{IsFirstRepeat}

abbrev pub str_cmp : Bor (List ℕ) → Bor (List ℕ) → Ordering
str_cmp x y = slice_cmp nat_cmp x.now y.now

abbrev pub shown : List (Bor (List ℕ)) → List (List ℕ)
shown names = map (λ n. n.now) names

shown_more : (names : List (Bor (List ℕ))) (i : ℕ) (n : Bor (List ℕ)) → i < length names
    → n ≡ get_or names i n → shown (take (i + 1) names) ≡ shown (take i names) ++ n.now ∷ []
shown_more names i n below here =
    ap shown (take_more names i n below ∙ ap (λ y. take i names ++ y ∷ []) (sym here))
    ∙ map-append (λ m. m.now) (take i names) (n ∷ [])

pub any_default : (names : List (Bor (List ℕ))) (i : ℕ) (d e : Bor (List ℕ)) → i < length names
    → get_or names i d ≡ get_or names i e
any_default [] i d e below = absurd (omega arith)
any_default (n ∷ names) zero d e below = refl
any_default (n ∷ names) (suc i) d e below = any_default names i d e (omega arith)

-- a name that is not new was seen, and one that is new was not
pub was_seen : (added seen : Bool) → added ≡ not seen → added ≡ false → seen ≡ true
was_seen added true e f = refl
was_seen added false e f = absurd (true≢false (sym e ∙ f))

pub was_new : (added seen : Bool) → added ≡ not seen → added ≡ true → seen ≡ false
was_new added true e f = absurd (true≢false (sym f ∙ e))
was_new added false e f = refl

or_either : (a b c : Bool) → a ≡ b → cond a true c ≡ (c || (b || false))
or_either true b true e = refl
or_either true b false e = rw (sym e) refl
or_either false b true e = refl
or_either false b false e = rw (sym e) refl

split_here : (names : List (Bor (List ℕ))) (i : ℕ) (n : Bor (List ℕ)) → i < length names
    → n ≡ get_or names i n → shown names ≡ shown (take i names)
    ++ n.now ∷ shown (drop (suc i) names)
split_here [] i n below here = absurd (omega arith)
split_here (m ∷ names) zero n below here = rw here refl
split_here (m ∷ names) (suc i) n below here =
    ap (λ xs. m.now ∷ xs) (split_here names i n (omega arith) here)

-- one more name is seen
pub seen_more : (names : List (Bor (List ℕ))) (i : ℕ) (n : Bor (List ℕ)) (old new : Bor (List ℕ)
    → Bool) → i < length names → n ≡ get_or names i n
    → ((q : Bor (List ℕ)) → old q ≡ list_any (bytes_eq q.now) (shown (take i names)))
    → ((q : Bor (List ℕ)) → new q ≡ cond (is_eq (str_cmp n q)) true (old q))
    → (q : Bor (List ℕ)) → new q ≡ list_any (bytes_eq q.now) (shown (take (i + 1) names))
seen_more names i n old new below here before updates q =
    let cut = shown_more names i n below here in
    let same : is_eq (str_cmp n q) ≡ bytes_eq n.now q.now = is_eq-slice_cmp n.now q.now in
    updates q ∙ rw (cut, list_any-append (bytes_eq q.now), same, before q)
    (or_either (bytes_eq n.now q.now) (bytes_eq q.now n.now) _
    (nat_list_eq_equiv.symm n.now q.now))

-- one more name differs from those before it
pub distinct_more : (names : List (Bor (List ℕ))) (i : ℕ) (n : Bor (List ℕ)) → i < length names
    → n ≡ get_or names i n → IsDistinct bytes_eq (shown (take i names))
    → list_any (bytes_eq n.now) (shown (take i names)) ≡ false
    → IsDistinct bytes_eq (shown (take (i + 1) names))
distinct_more names i n below here before none = rw (shown_more names i n below here)
    (IsDistinct-push nat_list_eq_equiv (shown (take i names)) n.now before none)

-- a name that was seen repeats
pub repeat_here : (names : List (Bor (List ℕ))) (i : ℕ) (n : Bor (List ℕ)) → i < length names
    → n ≡ get_or names i n → IsDistinct bytes_eq (shown (take i names))
    → list_any (bytes_eq n.now) (shown (take i names)) ≡ true → IsFirstRepeat (shown names) n.now
repeat_here names i n below here before there = record {
  front = shown (take i names);
  rest = shown (drop (suc i) names);
  names_are = split_here names i n below here;
  front_differ = before;
  stood_before = there;
}
