-- The members of a report as JSON have names that differ.
use Rattle.std.proofs.Common.{◌≡◌, ◌≢◌, ◌==◌, ◌&&◌, ℕ, Bool, true, false, not, List, [], ◌∷◌, All}
use Rattle.std.proofs.Common.{Some, None, codes, refl, sym, ap, ◌∙◌, arith}
use Rattle.std.specs.Prelude.{decimal}
use Rattle.std.specs.List.{list_all}
use Rattle.std.proofs.lemmas.Bool.{and_parts}
use Rattle.std.proofs.lemmas.Bool.Decides.{nat_tests}
use Rattle.std.proofs.lemmas.List.Elements.{All-cons, All-nil}
use Rattle.it_report.specs.Fault.{name_of, number_of}
use Rattle.it_report.specs.declared.refusal.Fault.{Fault}
use Rattle.it_report.specs.declared.refusal.Fault.TheVariants.{NoProvenance, BadPolicy}
use Rattle.it_report.specs.declared.verdict.Verdict.TheVariants.{Accepted, Refused}
use Rattle.it_json_report.specs.JsonLaws.{JsonNamesDiffer, NamesDiffer}
use Rattle.it_json_report.specs.Json.{json_list, json_text}
use Rattle.it_json_report.specs.JsonReport.{fault_members, members_of, sublayout_object}

-- whether two texts are the same
abbrev is_same : List ℕ → List ℕ → Bool
is_same [] [] = true
is_same [] (y ∷ ys) = false
is_same (x ∷ xs) [] = false
is_same (x ∷ xs) (y ∷ ys) = x == y && is_same xs ys

is_same-itself : (xs : List ℕ) → is_same xs xs ≡ true
is_same-itself [] = refl
is_same-itself (x ∷ xs) = let rest = is_same-itself xs in grind (arith, nat_tests)

-- whether a member has another name
abbrev is_other : List ℕ → List ℕ × List ℕ → Bool
is_other name pair = not (is_same pair.0 name)

is_other-apart : (name : List ℕ) (pair : List ℕ × List ℕ) → is_other name pair ≡ true
    → pair.0 ≢ name
is_other-apart name pair other same =
    let tests : false ≡ true = sym (ap not (is_same-itself name))
    ∙ ap (λ text. not (is_same text name)) (sym same) ∙ other in
    cc

others : (name : List ℕ) (pairs : List (List ℕ × List ℕ)) → list_all (is_other name) pairs ≡ true
    → All (λ pair. pair.0 ≢ name) pairs
others name [] passes = All-nil (λ pair. pair.0 ≢ name)
others name (pair ∷ pairs) passes =
    All-cons (λ one. one.0 ≢ name) pair pairs
    (is_other-apart name pair (and_parts (is_other name pair) (list_all (is_other name) pairs)
    passes).0)
    (others name pairs (and_parts (is_other name pair) (list_all (is_other name) pairs) passes).1)

-- a test of names that differ
abbrev differ : List (List ℕ × List ℕ) → Bool
differ [] = true
differ (pair ∷ pairs) = list_all (is_other pair.0) pairs && differ pairs

tested : (pairs : List (List ℕ × List ℕ)) → differ pairs ≡ true → NamesDiffer pairs
tested [] passes = tt
tested (pair ∷ pairs) passes =
    let parts = and_parts (list_all (is_other pair.0) pairs) (differ pairs) passes in
    (others pair.0 pairs parts.0, tested pairs parts.1)

module _ (at number name verdict : List ℕ) where
  -- the members of a refusal with these values
  abbrev refusing : Fault → List (List ℕ × List ℕ)
  refusing fault = (codes "verdict", verdict) ∷ (codes "number", number) ∷ (codes "name", name)
      ∷ (codes "at", at) ∷ fault_members fault

  refusing-differ : (fault : Fault) → NamesDiffer (refusing fault)
  refusing-differ (NoProvenance path None) = tested (refusing (NoProvenance path None)) refl
  refusing-differ (NoProvenance path (Some level)) =
      tested (refusing (NoProvenance path (Some level))) refl
  refusing-differ (BadPolicy part) = tested (refusing (BadPolicy part)) refl
  refusing-differ fault = tested (refusing fault) refl

pub json_names_differ : JsonNamesDiffer
json_names_differ (Accepted steps files) = tested (members_of (Accepted steps files)) refl
json_names_differ (Refused refusal) =
    refusing-differ (json_list sublayout_object refusal.at) (decimal (number_of refusal.fault))
    (json_text (name_of refusal.fault)) (json_text (codes "refused")) refusal.fault
