-- Steps and inspections of layouts (in-toto 1.0 section 4.3).
use Rattle.std.specs.Prelude.{ℕ, ◌++◌, List, [], map, codes}
use Rattle.serde_json.specs.Data.{Data}
use Rattle.it_base.specs.Parts.{IsPart, IsPartOr}
use Rattle.it_base.specs.Sequence.{IsList}
use Rattle.it_base.specs.Text.{IsText}
use Rattle.it_docs.specs.Rule.{IsRule}
use Rattle.it_docs.specs.Threshold.{IsThresholdPart}
use Rattle.it_docs.specs.declared.step.Inspection.{Inspection}
use Rattle.it_docs.specs.declared.step.Step.{Step}

-- a step of a layout
pub record IsStep (d : Data) (step : Step) : Type 0 where
  pub name : IsPart IsText (codes "name") d step.name
  pub threshold : IsThresholdPart d step.threshold
  pub pubkeys : IsPartOr (IsList IsText) [] (codes "pubkeys") d step.pubkeys
  pub expected_materials :
      IsPartOr (IsList IsRule) [] (codes "expected_materials") d step.expected_materials
  pub expected_products :
      IsPartOr (IsList IsRule) [] (codes "expected_products") d step.expected_products

-- an inspection of a layout
pub record IsInspection (d : Data) (inspection : Inspection) : Type 0 where
  pub name : IsPart IsText (codes "name") d inspection.name
  pub expected_materials :
      IsPartOr (IsList IsRule) [] (codes "expected_materials") d inspection.expected_materials
  pub expected_products :
      IsPartOr (IsList IsRule) [] (codes "expected_products") d inspection.expected_products

-- the names of steps and inspections, steps first
abbrev pub names_of : List Step → List Inspection → List (List ℕ)
names_of steps inspections = map (λ s. s.name) steps ++ map (λ i. i.name) inspections
