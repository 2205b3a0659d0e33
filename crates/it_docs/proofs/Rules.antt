-- The rule that a list of texts is, as a relation and as an answer.
use Rattle.std.proofs.Common.{subst, ◌≡◌, ◌≢◌, ℕ, List, [], ◌∷◌, ◌++◌, length, ◌&&◌, Bool, true}
use Rattle.std.proofs.Common.{codes, cond, Option, Some, None, option_map, refl, sym, ap, ◌∙◌, ◌⊎◌}
use Rattle.std.proofs.Common.{false, inl, inr}
use Rattle.std.specs.Str.{str_to_ascii_lowercase, bytes_eq}
use Rattle.std.proofs.lemmas.Slice.Eq.{bytes_eq-Decides}
use Rattle.std.proofs.lemmas.Option.{same_Some}
use Rattle.serde_json.specs.Data.{Data}
use Rattle.it_base.specs.Finds.{Finds}
use Rattle.it_base.specs.Sequence.{IsList}
use Rattle.it_base.specs.Text.{IsText}
use Rattle.it_base.proofs.Items.{list_same}
use Rattle.it_docs.specs.Rule.{is_keyword, IsKeyword, IsSide, IsShort, IsPrefix, MatchOf, IsRule}
use Rattle.it_docs.specs.Rule.{RuleOf}
use Rattle.it_docs.specs.inside.RuleAnswer.{side_of, short_of, is_match, match_of, prefixed_of}
use Rattle.it_docs.specs.inside.RuleAnswer.{rule_of}
use Rattle.it_docs.specs.declared.rule.Rule.{Rule}
use Rattle.it_docs.specs.declared.rule.Rule.TheVariants.{Match, Create, Delete, Modify, Allow}
use Rattle.it_docs.specs.declared.rule.Rule.TheVariants.{Disallow, Require}
use Rattle.it_docs.specs.declared.rule.Side.{Side}
use Rattle.it_docs.specs.declared.rule.Side.TheVariants.{Materials, Products}

-- a text that is one keyword is no other
other_keyword : (a b text : List ℕ) → bytes_eq (str_to_ascii_lowercase a) (str_to_ascii_lowercase b)
    ≡ false → IsKeyword a text → is_keyword b text ≡ false
other_keyword a b text apart is =
    let first : str_to_ascii_lowercase text ≡ str_to_ascii_lowercase a =
    (bytes_eq-Decides (str_to_ascii_lowercase text) (str_to_ascii_lowercase a)).0 is in
    ap (λ l. bytes_eq l (str_to_ascii_lowercase b)) first ∙ apart

side_of-IsSide : (side : Side) (text : List ℕ) → IsSide side text → side_of text ≡ Some side
unfolding side_of
side_of-IsSide Materials text is = rw is refl
side_of-IsSide Products text is =
    rw (other_keyword (codes "PRODUCTS") (codes "MATERIALS") text refl is, is) refl

first_or : {A : Type 0} (b : Bool) (x : A) (rest : Option A) (r : A) → cond b (Some x) rest ≡ Some r
    → ((b ≡ true) × (x ≡ r)) ⊎ ((b ≡ false) × (rest ≡ Some r))
first_or true x rest r e = inl (refl, cc)
first_or false x rest r e = inr (refl, e)

either_or : {A : Type 0} (b : Bool) (x rest : Option A) (r : A) → cond b x rest ≡ Some r
    → ((b ≡ true) × (x ≡ Some r)) ⊎ (rest ≡ Some r)
either_or true x rest r e = inl (refl, e)
either_or false x rest r e = inr e

if_some : {A : Type 0} (b : Bool) (x : Option A) (r : A) → cond b x None ≡ Some r → (b ≡ true)
    × (x ≡ Some r)
if_some true x r e = (refl, e)
if_some false x r e = absurd (cc)

both : (a b : Bool) → (a && b) ≡ true → (a ≡ true) × (b ≡ true)
both true b e = (refl, e)
both false b e = absurd (cc)

map_some : {A B : Type 0} (f : A → B) (o : Option A) (r : B) → option_map f o ≡ Some r → (a : A)
    × (o ≡ Some a) × (f a ≡ r)
map_some f None r e = absurd (cc)
map_some f (Some a) r e = (a, refl, cc)

IsSide-side_of : (side : Side) (text : List ℕ) → side_of text ≡ Some side → IsSide side text
unfolding side_of
IsSide-side_of side text e =
    elim (first_or (is_keyword (codes "MATERIALS") text) Materials _ side e) [
      | inl p ↦ subst (λ s. IsSide s text) p.1 p.0
      | inr p ↦ let q = if_some (is_keyword (codes "PRODUCTS") text) (Some Products) side p.1 in
          let same : Products ≡ side = cc (q.1) in subst (λ s. IsSide s text) same q.0
    ]

short_of-is : (keyword : List ℕ) (operand : List ℕ) (rule : Rule) → short_of keyword operand
    ≡ Some rule → RuleOf (keyword ∷ operand ∷ []) rule
unfolding short_of
short_of-is k x r e =
    let is_rule = λ (word : List ℕ) (is : IsKeyword word k). let h : IsShort (k ∷ x ∷ []) word x =
    record { first = k; texts_are = refl; is_first = is } in h in
    let P : Rule → Type 0 = λ r. RuleOf (k ∷ x ∷ []) r in
    elim (first_or (is_keyword (codes "CREATE") k) (Create x) _ r e) [
      | inl p ↦ subst P p.1 (is_rule (codes "CREATE") p.0)
      | inr p ↦ elim (first_or (is_keyword (codes "DELETE") k) (Delete x) _ r p.1) [
        | inl p ↦ subst P p.1 (is_rule (codes "DELETE") p.0)
        | inr p ↦ elim (first_or (is_keyword (codes "MODIFY") k) (Modify x) _ r p.1) [
          | inl p ↦ subst P p.1 (is_rule (codes "MODIFY") p.0)
          | inr p ↦ elim (first_or (is_keyword (codes "ALLOW") k) (Allow x) _ r p.1) [
            | inl p ↦ subst P p.1 (is_rule (codes "ALLOW") p.0)
            | inr p ↦ elim (first_or (is_keyword (codes "DISALLOW") k) (Disallow x) _ r p.1) [
              | inl p ↦ subst P p.1 (is_rule (codes "DISALLOW") p.0)
              | inr p ↦ let q = if_some (is_keyword (codes "REQUIRE") k) (Some (Require x)) r p.1 in
                  let same : Require x ≡ r = cc (q.1) in
                  subst P same (is_rule (codes "REQUIRE") q.0)
            ]
          ]
        ]
      ]
    ]

abbrev AreMatchWords : List ℕ → List ℕ → List ℕ → Type 0
AreMatchWords match with from = IsKeyword (codes "MATCH") match
    × (IsKeyword (codes "WITH") with × IsKeyword (codes "FROM") from)

match_words : (match with from : List ℕ) → is_match match with from ≡ true
    → AreMatchWords match with from
match_words m w f e =
    let first = both (is_keyword (codes "MATCH") m) (is_keyword (codes "WITH") w
    && is_keyword (codes "FROM") f) e in
    (first.0, both (is_keyword (codes "WITH") w) (is_keyword (codes "FROM") f) first.1)

match_of-is : (pattern source side target step : List ℕ) (rule : Rule)
    → match_of pattern source side target step ≡ Some rule → (s : Side) × IsSide s side
    × (Match pattern source s target step ≡ rule)
unfolding match_of
match_of-is pattern source side target step rule e =
    let found = map_some (λ s. Match pattern source s target step) (side_of side) rule e in
    (found.0, IsSide-side_of found.0 side found.1, found.2)

-- the texts of a MATCH, with the words of its prefixes, are the rule that is answered for them
made_match : (m p : List ℕ) (ss : List (List ℕ)) (w d : List ℕ) (ts : List (List ℕ))
    (f s a b : List ℕ) (rule : Rule) → IsPrefix ss a → IsPrefix ts b → is_match m w f ≡ true
    → match_of p a d b s ≡ Some rule → RuleOf (m ∷ p ∷ ss ++ w ∷ d ∷ ts ++ f ∷ s ∷ []) rule
made_match m p ss w d ts f s a b rule is_source is_target e answered =
    let words = match_words m w f e in
    let found = match_of-is p a d b s rule answered in
    let texts = m ∷ p ∷ ss ++ w ∷ d ∷ ts ++ f ∷ s ∷ [] in
    let is : MatchOf texts p a found.0 b s = record {
      match = m;
      in_source = ss;
      with = w;
      side_word = d;
      in_target = ts;
      from = f;
      texts_are = refl;
      is_match = words.0;
      is_source = is_source;
      is_with = words.1.0;
      is_side = found.1;
      is_target = is_target;
      is_from = words.1.1;
    } in
    subst (λ r. RuleOf texts r) found.2 is

-- what is answered is the rule
pub rule_of-is : (texts : List (List ℕ)) (rule : Rule) → rule_of texts ≡ Some rule
    → RuleOf texts rule
unfolding rule_of prefixed_of
rule_of-is [] r e = absurd (cc)
rule_of-is (a ∷ []) r e = absurd (cc)
rule_of-is (k ∷ x ∷ []) r e = short_of-is k x r e
rule_of-is (a ∷ b ∷ c ∷ []) r e = absurd (cc)
rule_of-is (a ∷ b ∷ c ∷ d ∷ []) r e = absurd (cc)
rule_of-is (a ∷ b ∷ c ∷ d ∷ f ∷ []) r e = absurd (cc)
rule_of-is (m ∷ p ∷ w ∷ d ∷ f ∷ s ∷ []) r e =
    let q = if_some (is_match m w f) _ r e in
    made_match m p [] w d [] f s [] [] r refl refl q.0 q.1
rule_of-is (a ∷ b ∷ c ∷ d ∷ f ∷ g ∷ h ∷ []) r e = absurd (cc)
rule_of-is (m ∷ p ∷ a ∷ b ∷ c ∷ d ∷ f ∷ s ∷ []) r e =
    elim (either_or (is_keyword (codes "IN") a && is_match m c f) (match_of p b d [] s) _ r e) [
      | inl q ↦
          let first = both (is_keyword (codes "IN") a) (is_match m c f) q.0 in
          made_match m p (a ∷ b ∷ []) c d [] f s b [] r (first.0, refl) refl first.1 q.1
      | inr q ↦
          let holds = if_some (is_keyword (codes "IN") c && is_match m a f) (match_of p [] b d s) r
          q in
          let first = both (is_keyword (codes "IN") c) (is_match m a f) holds.0 in
          made_match m p [] a b (c ∷ d ∷ []) f s [] d r refl (first.0, refl) first.1 holds.1
    ]
rule_of-is (a ∷ b ∷ c ∷ d ∷ f ∷ g ∷ h ∷ i ∷ j ∷ []) r e = absurd (cc)
rule_of-is (m ∷ p ∷ i ∷ a ∷ w ∷ d ∷ j ∷ b ∷ f ∷ s ∷ []) r e =
    let q = if_some ((is_keyword (codes "IN") i && is_keyword (codes "IN") j) && is_match m w f) _ r
    e in
    let first = both (is_keyword (codes "IN") i && is_keyword (codes "IN") j)
    (is_match m w f) q.0 in
    let within = both (is_keyword (codes "IN") i) (is_keyword (codes "IN") j) first.0 in
    made_match m p (i ∷ a ∷ []) w d (j ∷ b ∷ []) f s a b r (within.0, refl) (within.1, refl)
    first.1 q.1
rule_of-is (a ∷ b ∷ c ∷ d ∷ f ∷ g ∷ h ∷ i ∷ j ∷ k ∷ l ∷ rest) r e = absurd (cc)

-- lists of other lengths are no MATCH with a prefix
pub no_prefixed : (texts : List (List ℕ)) → length texts ≢ 8 → length texts ≢ 10
    → None ≡ prefixed_of texts
unfolding prefixed_of
no_prefixed [] h8 h10 = refl
no_prefixed (a ∷ []) h8 h10 = refl
no_prefixed (a ∷ b ∷ []) h8 h10 = refl
no_prefixed (a ∷ b ∷ c ∷ []) h8 h10 = refl
no_prefixed (a ∷ b ∷ c ∷ d ∷ []) h8 h10 = refl
no_prefixed (a ∷ b ∷ c ∷ d ∷ f ∷ []) h8 h10 = refl
no_prefixed (a ∷ b ∷ c ∷ d ∷ f ∷ g ∷ []) h8 h10 = refl
no_prefixed (a ∷ b ∷ c ∷ d ∷ f ∷ g ∷ h ∷ []) h8 h10 = refl
no_prefixed (m ∷ p ∷ a ∷ b ∷ c ∷ d ∷ f ∷ s ∷ []) h8 h10 = absurd (h8 refl)
no_prefixed (a ∷ b ∷ c ∷ d ∷ f ∷ g ∷ h ∷ i ∷ j ∷ []) h8 h10 = refl
no_prefixed (m ∷ p ∷ i ∷ a ∷ w ∷ d ∷ j ∷ b ∷ f ∷ s ∷ []) h8 h10 = absurd (h10 refl)
no_prefixed (a ∷ b ∷ c ∷ d ∷ f ∷ g ∷ h ∷ i ∷ j ∷ k ∷ l ∷ rest) h8 h10 = refl

-- a MATCH is answered, with and without prefixes
answered_match : (m p : List ℕ) (ss : List (List ℕ)) (w d : List ℕ) (ts : List (List ℕ))
    (f s a b : List ℕ) (side : Side) → IsPrefix ss a → IsPrefix ts b
    → IsKeyword (codes "MATCH") m → IsKeyword (codes "WITH") w → IsSide side d
    → IsKeyword (codes "FROM") f
    → rule_of (m ∷ p ∷ ss ++ w ∷ d ∷ ts ++ f ∷ s ∷ []) ≡ Some (Match p a side b s)
unfolding rule_of prefixed_of match_of
answered_match m p [] w d [] f s a b side ha hb hm hw hd hf =
    rw (hm, hw, hf, side_of-IsSide side d hd, ha, hb) refl
answered_match m p (i ∷ within) w d [] f s a b side ha hb hm hw hd hf =
    rw (ha.1, hm, ha.0, hw, hf, side_of-IsSide side d hd, hb) refl
answered_match m p [] w d (j ∷ within) f s a b side ha hb hm hw hd hf =
    let no_source = other_keyword (codes "WITH") (codes "IN") w refl hw in
    rw (hb.1, no_source, hm, hb.0, hw, hf, side_of-IsSide side d hd, ha) refl
answered_match m p (i ∷ within) w d (j ∷ further) f s a b side ha hb hm hw hd hf =
    rw (ha.1, hb.1, hm, ha.0, hb.0, hw, hf, side_of-IsSide side d hd) refl

-- each rule is answered
pub RuleOf-answer : (texts : List (List ℕ)) (rule : Rule) → RuleOf texts rule
    → rule_of texts ≡ Some rule
unfolding rule_of prefixed_of short_of match_of
RuleOf-answer texts (Create x) is = rw (is.texts_are, is.is_first) refl
RuleOf-answer texts (Delete x) is =
    rw (
      is.texts_are,
      other_keyword (codes "DELETE") (codes "CREATE") is.first refl is.is_first,
      is.is_first,
    ) refl
RuleOf-answer texts (Modify x) is =
    let apart = λ (word : List ℕ) (differ : bytes_eq (str_to_ascii_lowercase (codes "MODIFY"))
    (str_to_ascii_lowercase word) ≡ false). other_keyword (codes "MODIFY") word is.first differ
    is.is_first in
    rw (is.texts_are, apart (codes "CREATE") refl, apart (codes "DELETE") refl, is.is_first) refl
RuleOf-answer texts (Allow x) is =
    let apart = λ (word : List ℕ) (differ : bytes_eq (str_to_ascii_lowercase (codes "ALLOW"))
    (str_to_ascii_lowercase word) ≡ false). other_keyword (codes "ALLOW") word is.first differ
    is.is_first in
    rw (
      is.texts_are,
      apart (codes "CREATE") refl,
      apart (codes "DELETE") refl,
      apart (codes "MODIFY") refl,
      is.is_first,
    ) refl
RuleOf-answer texts (Disallow x) is =
    let apart = λ (word : List ℕ) (differ : bytes_eq (str_to_ascii_lowercase (codes "DISALLOW"))
    (str_to_ascii_lowercase word) ≡ false). other_keyword (codes "DISALLOW") word is.first
    differ is.is_first in
    rw (
      is.texts_are,
      apart (codes "CREATE") refl,
      apart (codes "DELETE") refl,
      apart (codes "MODIFY") refl,
      apart (codes "ALLOW") refl,
      is.is_first,
    ) refl
RuleOf-answer texts (Require x) is =
    let apart = λ (word : List ℕ) (differ : bytes_eq (str_to_ascii_lowercase (codes "REQUIRE"))
    (str_to_ascii_lowercase word) ≡ false). other_keyword (codes "REQUIRE") word is.first differ
    is.is_first in
    rw (
      is.texts_are,
      apart (codes "CREATE") refl,
      apart (codes "DELETE") refl,
      apart (codes "MODIFY") refl,
      apart (codes "ALLOW") refl,
      apart (codes "DISALLOW") refl,
      is.is_first,
    ) refl
RuleOf-answer texts (Match p a side b s) is =
    rw (is.texts_are)
    (answered_match is.match p is.in_source is.with is.side_word is.in_target is.from s a b side
    is.is_source is.is_target is.is_match is.is_with is.is_side is.is_from)

-- what is answered is what is found
pub found-rule_of : (texts : List (List ℕ)) (found : Option Rule) → found ≡ rule_of texts
    → Finds (RuleOf texts) found
found-rule_of texts None e = λ rule is. let h = e ∙ RuleOf-answer texts rule is in absurd (cc h)
found-rule_of texts (Some rule) e = rule_of-is texts rule (sym e)

pub text_same : (d : Data) (a b : List ℕ) → IsText d a → IsText d b → a ≡ b
text_same d a b h k = same_Some a b (sym h ∙ k)

-- what the texts are, the part is that is a list of them
pub found_of_texts : (d : Data) (texts : List (List ℕ)) → IsList IsText d texts
    → (found : Option Rule) → Finds (RuleOf texts) found → Finds (IsRule d) found
found_of_texts d texts is_list None none =
    λ rule is. none rule
    (subst (λ ts. RuleOf ts rule) (list_same IsText text_same d is.0 texts is.1 is_list) is.2)
found_of_texts d texts is_list (Some rule) is = (texts, is_list, is)
