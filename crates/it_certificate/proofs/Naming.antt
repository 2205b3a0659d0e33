-- Names and issuers, by their parts.
use Rattle.std.proofs.Common.{◌≡◌, ℕ, List, [], ◌∷◌, length, get_or, map, Option, Some, None, MatchOption, Result, Ok, Err, IfOk}
use Rattle.std.proofs.Common.{Bor, sym, ap, subst, ◌∙◌, arith}
use Rattle.it_der.specs.Element.{IsElement, AreElements}
use Rattle.it_der.proofs.Reading.{one_reading}
use Rattle.it_certificate.specs.Name.{IsNameContent, IsOtherName, IsPlainName, fulcio_name, plain, other}
use Rattle.it_certificate.specs.Parts.{with_tags}
use Rattle.it_certificate.specs.Within.{Wraps}
use Rattle.it_certificate.proofs.OneWay.{one_content}
use Rattle.it_certificate.proofs.Tags.{content_at}

-- the two parts of a name of another kind
abbrev pub AreParts : List ℕ → List ℕ → List ℕ → Type 0
AreParts content kind text = AreElements content (with_tags (6 ∷ 160 ∷ []) (kind ∷ text ∷ []))

pub as_two : (xs : List (Bor (List ℕ))) (d : Bor (List ℕ)) (content : List ℕ) → length xs ≡ 2
    → AreElements content (with_tags (6 ∷ 160 ∷ []) (map (λ c. c.now) xs)) → AreParts content (get_or xs 0 d).now (get_or xs 1 d).now
as_two [] d content long are = absurd (omega arith)
as_two (a ∷ []) d content long are = absurd (omega arith)
as_two (a ∷ b ∷ []) d content long are = are
as_two (a ∷ b ∷ c ∷ xs) d content long are = absurd (omega arith)

pub two_are : (xs : List (Bor (List ℕ))) (a b : Bor (List ℕ)) (content : List ℕ) → length xs ≡ 2 → a ≡ get_or xs 0 a → b ≡ get_or xs 1 b
    → AreElements content (with_tags (6 ∷ 160 ∷ []) (map (λ c. c.now) xs)) → AreParts content a.now b.now
two_are [] a b content long e f are = absurd (omega arith)
two_are (x ∷ []) a b content long e f are = absurd (omega arith)
two_are (x ∷ y ∷ []) a b content long e f are =
    subst (λ (z : Bor (List ℕ)). AreParts content a.now z.now) (sym f)
    (subst (λ (z : Bor (List ℕ)). AreParts content z.now y.now) (sym e) are)
two_are (x ∷ y ∷ z ∷ xs) a b content long e f are = absurd (omega arith)

pub other_kind : (content kind text : List ℕ) → AreParts content kind text → (kind ≡ fulcio_name → ⊥)
    → (name : List ℕ) → IsOtherName content name → ⊥
unfolding content_at
other_kind content kind text are differ name is =
    differ (ap (content_at 0) (one_reading content (with_tags (6 ∷ 160 ∷ []) (kind ∷ text ∷ []))
    (with_tags (6 ∷ 160 ∷ []) (fulcio_name ∷ is.text ∷ [])) are is.parts))

pub other_found : (content kind text : List ℕ) (r : Option (Bor (List ℕ))) → AreParts content kind text → kind ≡ fulcio_name
    → MatchOption r ((name : List ℕ) → IsElement text 12 name → ⊥) (λ n. IsElement text 12 n.now)
    → MatchOption r ((name : List ℕ) → IsOtherName content name → ⊥) (λ n. IsOtherName content n.now)
unfolding content_at
other_found content kind text None are same none = λ name is.
    let text_is : text ≡ is.text = ap (content_at 1) (one_reading content (with_tags (6 ∷ 160 ∷ []) (kind ∷ text ∷ []))
    (with_tags (6 ∷ 160 ∷ []) (fulcio_name ∷ is.text ∷ [])) are is.parts) in
    none name (subst (λ (t : List ℕ). IsElement t 12 name) (sym text_is) is.is)
other_found content kind text (Some n) are same found = record {
  text = text;
  parts = subst (λ (k : List ℕ). AreParts content k text) same are;
  is = found;
}

-- a name that is no URI and no address is of Fulcio's own kind
only_other : (content name : List ℕ) → ((n : List ℕ) → IsPlainName content n → ⊥) → (Wraps 160 IsOtherName content name → ⊥)
    → IsNameContent content name → ⊥
only_other content name no_plain none (plain is) = no_plain name is
only_other content name no_plain none (other is) = none is

name_found : (content : List ℕ) (r : Option (Bor (List ℕ))) → ((n : List ℕ) → IsPlainName content n → ⊥)
    → MatchOption r ((name : List ℕ) → Wraps 160 IsOtherName content name → ⊥) (λ n. Wraps 160 IsOtherName content n.now)
    → MatchOption r ((name : List ℕ) → IsNameContent content name → ⊥) (λ n. IsNameContent content n.now)
name_found content None no_plain none = λ name is. only_other content name no_plain (none name) is
name_found content (Some n) no_plain found = other found

pub name_found_if_ok : {E : Type 0} (content : List ℕ) (r : Result (Option (Bor (List ℕ))) E) → ((n : List ℕ) → IsPlainName content n → ⊥)
    → IfOk r (λ found. MatchOption found ((name : List ℕ) → Wraps 160 IsOtherName content name → ⊥) (λ n. Wraps 160 IsOtherName content n.now))
    → IfOk r (λ found. MatchOption found ((name : List ℕ) → IsNameContent content name → ⊥) (λ n. IsNameContent content n.now))
name_found_if_ok content (Ok found) no_plain says = name_found content found no_plain says
name_found_if_ok content (Err e) no_plain says = says

-- the issuer in both forms
pub both_issuers : (old new text : List ℕ) (r : Option (Bor (List ℕ))) → IsElement new 12 text
    → MatchOption r (old ≡ text → ⊥) (λ t. (t.now ≡ old) × (old ≡ text))
    → MatchOption r ((issuer : List ℕ) → (old ≡ issuer) × IsElement new 12 issuer → ⊥)
    (λ issuer. (old ≡ issuer.now) × IsElement new 12 issuer.now)
both_issuers old new text None whole differ = λ issuer is. differ (is.0 ∙ one_content new issuer text is.1 whole)
both_issuers old new text (Some t) whole same =
    (sym same.0, subst (λ (i : List ℕ). IsElement new 12 i) (sym (same.0 ∙ same.1)) whole)
