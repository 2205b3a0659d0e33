-- Objects in two parts.
use Rattle.std.proofs.Common.{◌≡◌, ◌∙◌, ℕ, List, [], ◌∷◌, ◌++◌, ap, append-nil, append_assoc, codes}
use Rattle.std.proofs.Common.{sym}
use Rattle.std.proofs.lemmas.Grind.{flat_map-append}
use Rattle.it_report.specs.declared.verdict.Verdict.{Verdict}
use Rattle.it_report.specs.declared.verdict.Verdict.TheVariants.{Accepted, Refused}
use Rattle.it_json_report.specs.Json.{further, json_object, json_text, member, opened}

-- further members behind some are the members of both
goes_on : (first : List ℕ × List ℕ) (members more : List (List ℕ × List ℕ))
    → opened (first ∷ members) ++ further member more ≡ opened (first ∷ (members ++ more))
goes_on first members more =
    ap (λ rest. codes "{" ++ rest) (append_assoc (member first) (further member members)
    (further member more) ∙ ap (λ rest. member first ++ rest) (sym (flat_map-append
    (λ one. codes "," ++ member one) members more)))

module _ (old : List ℕ) (first : List ℕ × List ℕ) (members more : List (List ℕ × List ℕ)) where
  -- the beginning of an object in two parts
  pub opened_in_two : (old ++ opened (first ∷ members)) ++ further member more
      ≡ old ++ opened (first ∷ (members ++ more))
  opened_in_two = append_assoc old (opened (first ∷ members)) (further member more)
      ∙ ap (λ rest. old ++ rest) (goes_on first members more)

  -- an object in two parts
  pub object_in_two : (old ++ opened (first ∷ members)) ++ (further member more ++ codes "}")
      ≡ old ++ json_object (first ∷ (members ++ more))
  object_in_two =
      let front = opened (first ∷ members) in
      append_assoc old front (further member more ++ codes "}")
      ∙ ap (λ rest. old ++ rest) (sym (append_assoc front (further member more) (codes "}"))
      ∙ ap (λ rest. rest ++ codes "}") (goes_on first members more))

-- an object whose last member is written by itself
pub object_by_last : (old : List ℕ) (first last : List ℕ × List ℕ)
    (members : List (List ℕ × List ℕ))
    → ((old ++ opened (first ∷ members)) ++ (codes "," ++ member last)) ++ codes "}"
    ≡ old ++ json_object (first ∷ (members ++ last ∷ []))
object_by_last old first last members =
    let front = old ++ opened (first ∷ members) in
    let next = codes "," ++ member last in
    append_assoc front next (codes "}")
    ∙ ap (λ rest. front ++ (rest ++ codes "}")) (sym (append-nil next))
    ∙ object_in_two old first members (last ∷ [])

-- three texts behind another, one after another
pub three_after : (old first second third : List ℕ) → ((old ++ first) ++ second) ++ third
    ≡ old ++ (first ++ (second ++ (third ++ [])))
three_after old first second third =
    append_assoc (old ++ first) second third ∙ append_assoc old first (second ++ third)
    ∙ ap (λ rest. old ++ (first ++ (second ++ rest))) (sym (append-nil third))

-- the beginning of an object, written as its first name, the value, and what follows
pub opened_by : (old name value next : List ℕ)
    → ((old ++ (codes "{\"" ++ name ++ codes "\":")) ++ value) ++ next
    ≡ old ++ (codes "{" ++ (member (name, value) ++ (next ++ [])))
opened_by old name value next =
    let named = name ++ codes "\":" in
    append_assoc (old ++ (codes "{\"" ++ named)) value next
    ∙ append_assoc old (codes "{\"" ++ named) (value ++ next)
    ∙ ap (λ rest. old ++ (codes "{\"" ++ rest))
    (ap (λ rest. named ++ (value ++ rest)) (sym (append-nil next))
    ∙ sym (append_assoc named value (next ++ [])))

-- the first member of a verdict
abbrev first_of : Verdict → List ℕ × List ℕ
first_of (Accepted steps files) = (codes "verdict", json_text (codes "accepted"))
first_of (Refused refusal) = (codes "verdict", json_text (codes "refused"))
