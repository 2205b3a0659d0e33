-- What is found in a layout (in-toto 1.0 section 4.3; that something is found, and what, is a word
-- of this project).
use Rattle.std.specs.Prelude.{◌≡◌, ℕ, List, ◌++◌, Some}
use Rattle.it_docs.specs.declared.layout.Layout.{Layout}
use Rattle.it_docs.specs.declared.rule.Side.TheVariants.{Materials, Products}
use Rattle.it_docs.specs.declared.step.Inspection.{Inspection}
use Rattle.it_docs.specs.declared.step.Step.{Step}
use Rattle.it_findings.specs.IdentityFindings.{LayoutIdentities}
use Rattle.it_findings.specs.Joined.{Joined}
use Rattle.it_findings.specs.RuleFindings.{ListFindings}
use Rattle.it_findings.specs.StepKeyFindings.{StepKeyFindings}
use Rattle.it_findings.specs.declared.finding.Finding.{Finding}
use Rattle.it_findings.specs.declared.finding.RuleList.TheVariants as lists

-- what is found in the rules of a step, on its materials and then on its products
pub record StepRuleFindings (layout : Layout) (place : ℕ) (step : Step) (found : List Finding)
    : Type 0 where
  pub of_materials : List Finding
  pub of_products : List Finding
  pub found_are : found ≡ of_materials ++ of_products
  pub materials : ListFindings (Some layout) (lists.OfStep place step.name Materials)
      step.expected_materials of_materials
  pub products : ListFindings (Some layout) (lists.OfStep place step.name Products)
      step.expected_products of_products

-- what is found in a step: in its keys, and then in its rules
pub record StepFindings (layout : Layout) (place : ℕ) (step : Step) (found : List Finding)
    : Type 0 where
  pub of_keys : List Finding
  pub of_rules : List Finding
  pub found_are : found ≡ of_keys ++ of_rules
  pub keys : StepKeyFindings layout (record { place = place; name = step.name }) step of_keys
  pub rules : StepRuleFindings layout place step of_rules

-- what is found in the rules of an inspection, in the same way
pub record InspectionFindings (layout : Layout) (place : ℕ) (inspection : Inspection)
    (found : List Finding) : Type 0 where
  pub of_materials : List Finding
  pub of_products : List Finding
  pub found_are : found ≡ of_materials ++ of_products
  pub materials : ListFindings (Some layout)
      (lists.OfInspection place inspection.name Materials) inspection.expected_materials
      of_materials
  pub products : ListFindings (Some layout)
      (lists.OfInspection place inspection.name Products) inspection.expected_products
      of_products

-- what is found in a layout: on identities among its keys, in its steps, and then in its
-- inspections, each in its order
pub record LayoutFindings (layout : Layout) (found : List Finding) : Type 0 where
  pub of_identities : List Finding
  pub of_steps : List Finding
  pub of_inspections : List Finding
  pub found_are : found ≡ of_identities ++ (of_steps ++ of_inspections)
  pub identities : LayoutIdentities layout of_identities
  pub steps : Joined (StepFindings layout) layout.steps of_steps
  pub inspections : Joined (InspectionFindings layout) layout.inspections of_inspections
