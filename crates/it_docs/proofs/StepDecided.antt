-- Which steps and inspections the parts of a layout are, as answers.
use Rattle.std.proofs.Common.{◌≡◌, ℕ, zero, suc, ◌≤◌, List, [], codes, Option, Some, None}
use Rattle.std.proofs.Common.{MatchOption, option_and_then, option_map, arith, refl}
use Rattle.serde_json.specs.Data.{Data}
use Rattle.serde_json.specs.Find.{as_number, as_str, as_u64}
use Rattle.it_base.specs.Document.{member_at}
use Rattle.it_base.specs.Finds.{Finds}
use Rattle.it_base.specs.Parts.{IsPart, IsPartOr}
use Rattle.it_base.specs.Sequence.{IsList}
use Rattle.it_base.specs.Text.{IsText}
use Rattle.it_base.proofs.Decided.{Reads, both_of, finds_both, finds_like, list_of, list_reads}
use Rattle.it_base.proofs.Decided.{part_of, part_or_of, part_or_reads, part_reads, text_reads}
use Rattle.it_docs.specs.Rule.{IsRule}
use Rattle.it_docs.specs.inside.RuleAnswer.{rule_of}
use Rattle.it_docs.specs.Step.{IsInspection, IsStep}
use Rattle.it_docs.specs.Threshold.{IsThreshold, IsThresholdPart}
use Rattle.it_docs.specs.declared.rule.Rule.{Rule}
use Rattle.it_docs.specs.declared.step.Inspection.{Inspection}
use Rattle.it_docs.specs.declared.step.Step.{Step}
use Rattle.it_docs.proofs.Rules.{found-rule_of, found_of_texts}

-- decides `IsRule`
abbrev rule_part_of : Data → Option Rule
rule_part_of d = option_and_then rule_of (list_of as_str d)

-- decides where rules are a part, or are missing
abbrev pub rules_of : List ℕ → Data → Option (List Rule)
rules_of = part_or_of (list_of rule_part_of) []

rule_reads : Reads IsRule rule_part_of
rule_reads d = go (list_of as_str d) (list_reads IsText as_str text_reads d)
  where
    go : (texts : Option (List (List ℕ))) → Finds (IsList IsText d) texts
        → Finds (IsRule d) (option_and_then rule_of texts)
    go None h = λ rule is. h is.0 is.1
    go (Some texts) h = found_of_texts d texts h (rule_of texts)
        (found-rule_of texts (rule_of texts) refl)

pub rules_reads : (name : List ℕ) → Reads (IsPartOr (IsList IsRule) [] name) (rules_of name)
rules_reads = part_or_reads (IsList IsRule) (list_of rule_part_of)
    (list_reads IsRule rule_part_of rule_reads) []

-- a threshold with its law
abbrev Threshold : Type 0
Threshold = (n : ℕ) × (1 ≤ n)

abbrev at_least_one : ℕ → Option Threshold
at_least_one zero = None
at_least_one (suc n) = Some (suc n, omega arith)

-- decides `IsThreshold`
abbrev threshold_of : Data → Option Threshold
threshold_of d = option_and_then at_least_one (option_and_then as_u64 (as_number d))

abbrev threshold_or_one : Option Data → Option Threshold
threshold_or_one None = Some (1, omega arith)
threshold_or_one (Some v) = threshold_of v

-- decides `IsThresholdPart`
abbrev threshold_part_of : Data → Option Threshold
threshold_part_of d = threshold_or_one (member_at (codes "threshold") d)

abbrev NamedRules : Type 0
NamedRules = List ℕ × (List Rule × List Rule)

-- a name, and the rules on both sides
abbrev named_rules_of : Data → Option NamedRules
named_rules_of d = both_of (part_of as_str (codes "name") d)
    (both_of (rules_of (codes "expected_materials") d) (rules_of (codes "expected_products") d))

abbrev step_with : NamedRules × (Threshold × List (List ℕ)) → Step
step_with parts = record {
  name = parts.0.0;
  threshold = parts.1.0.0;
  pubkeys = parts.1.1;
  expected_materials = parts.0.1.0;
  expected_products = parts.0.1.1;
  threshold_at_least_one = parts.1.0.1;
}

-- decides `IsStep`
abbrev pub step_of : Data → Option Step
step_of d = option_map step_with
    (both_of (named_rules_of d)
    (both_of (threshold_part_of d) (part_or_of (list_of as_str) [] (codes "pubkeys") d)))

abbrev inspection_with : NamedRules → Inspection
inspection_with parts = record {
  name = parts.0;
  expected_materials = parts.1.0;
  expected_products = parts.1.1;
}

-- decides `IsInspection`
abbrev pub inspection_of : Data → Option Inspection
inspection_of d = option_map inspection_with (named_rules_of d)

number_found : (found : Option ℕ) → Finds (λ (t : Threshold). found ≡ Some t.0)
    (option_and_then at_least_one found)
number_found None = λ t e. cc
number_found (Some zero) = λ t e. let none : 0 ≡ t.0 = cc in let h = t.1 in absurd (omega arith)
number_found (Some (suc n)) = refl

threshold_found : (found : Option Data)
    → Finds (λ (t : Threshold). MatchOption found (t.0 ≡ 1) (λ v. IsThreshold v t.0))
    (threshold_or_one found)
threshold_found None = refl
threshold_found (Some v) = go (threshold_of v) (number_found (option_and_then as_u64 (as_number v)))
  where
    go : (t : Option Threshold)
        → Finds (λ (t : Threshold). option_and_then as_u64 (as_number v) ≡ Some t.0) t
        → Finds (λ (t : Threshold). IsThreshold v t.0) t
    go None h = λ t is. h t is.number_is
    go (Some t) h = record { number_is = h; at_least_one = t.1 }

abbrev AreNamedRules : Data → NamedRules → Type 0
AreNamedRules d p = IsPart IsText (codes "name") d p.0
    × (IsPartOr (IsList IsRule) [] (codes "expected_materials") d p.1.0
    × IsPartOr (IsList IsRule) [] (codes "expected_products") d p.1.1)

named_rules_reads : Reads AreNamedRules named_rules_of
named_rules_reads d =
    let materials = IsPartOr (IsList IsRule) [] (codes "expected_materials") d in
    let products = IsPartOr (IsList IsRule) [] (codes "expected_products") d in
    finds_both (IsPart IsText (codes "name") d) (λ p. materials p.0 × products p.1) _ _
    (part_reads IsText as_str text_reads (codes "name") d)
    (finds_both materials products _ _ (rules_reads (codes "expected_materials") d)
    (rules_reads (codes "expected_products") d))

pub step_reads : Reads IsStep step_of
step_reads d =
    let pubkeys = IsPartOr (IsList IsText) [] (codes "pubkeys") d in
    finds_like _ (IsStep d) step_with
    (λ s. (
      (s.name, (s.expected_materials, s.expected_products)),
      ((s.threshold, s.threshold_at_least_one), s.pubkeys),
    ))
    (λ p h. record {
      name = h.0.0;
      threshold = h.1.0;
      pubkeys = h.1.1;
      expected_materials = h.0.1.0;
      expected_products = h.0.1.1;
    })
    (λ s h. ((h.name, (h.expected_materials, h.expected_products)), (h.threshold, h.pubkeys))) _
    (finds_both (AreNamedRules d) (λ (p : Threshold × List (List ℕ)). IsThresholdPart d p.0.0
    × pubkeys p.1) _ _ (named_rules_reads d)
    (finds_both (λ (t : Threshold). IsThresholdPart d t.0) pubkeys _ _
    (threshold_found (member_at (codes "threshold") d))
    (part_or_reads (IsList IsText) (list_of as_str) (list_reads IsText as_str text_reads) []
    (codes "pubkeys") d)))

pub inspection_reads : Reads IsInspection inspection_of
inspection_reads d =
    finds_like (AreNamedRules d) (IsInspection d) inspection_with
    (λ i. (i.name, (i.expected_materials, i.expected_products)))
    (λ p h. record { name = h.0; expected_materials = h.1.0; expected_products = h.1.1 })
    (λ i h. (h.name, (h.expected_materials, h.expected_products))) _
    (named_rules_reads d)
