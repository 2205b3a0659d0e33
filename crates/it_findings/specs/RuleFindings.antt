-- What is found in a list of artifact rules (in-toto 1.0 section 4.3.3; that something is found,
-- and what, is a word of this project).
use Rattle.std.specs.Prelude.{◌≡◌, ℕ, List, [], ◌∷◌, ◌++◌, Option, MatchOption, Any}
use Rattle.it_docs.specs.declared.layout.Layout.{Layout}
use Rattle.it_docs.specs.declared.rule.Rule.{Rule}
use Rattle.it_docs.specs.declared.rule.Rule.TheVariants.{Match}
use Rattle.it_docs.specs.declared.step.Inspection.{Inspection}
use Rattle.it_docs.specs.declared.step.Step.{Step}
use Rattle.it_findings.specs.Closed.{IsClosed}
use Rattle.it_findings.specs.Joined.{Joined, Said}
use Rattle.it_findings.specs.Parameters.{NamesParameter}
use Rattle.it_findings.specs.declared.finding.Finding.{Finding}
use Rattle.it_findings.specs.declared.finding.Finding.TheVariants.{NoRules, OpenRules, Parameter}
use Rattle.it_findings.specs.declared.finding.Finding.TheVariants.{UnknownItem}
use Rattle.it_findings.specs.declared.finding.RuleList.{RuleList}

-- what is found in the list as a whole: that it has no rules, or is not closed
abbrev pub WholeFindings : RuleList → List Rule → List Finding → Type 0
WholeFindings list [] found = found ≡ NoRules list ∷ []
WholeFindings list (rule ∷ rules) found =
    Said (¬ IsClosed list (rule ∷ rules)) (OpenRules list) found

-- a step, or an inspection, of the layout has this name
abbrev pub HasStep : Layout → List ℕ → Type 0
HasStep layout name = Any (λ (s : Step). s.name ≡ name) layout.steps

abbrev pub HasInspection : Layout → List ℕ → Type 0
HasInspection layout name = Any (λ (i : Inspection). i.name ≡ name) layout.inspections

-- no step and no inspection of the layout has the name; nothing is said without a layout
abbrev pub IsUnknown : Option Layout → List ℕ → Type 0
IsUnknown layout name =
    MatchOption layout ⊥ (λ known. (¬ HasStep known name) × (¬ HasInspection known name))

-- what is found in where the rule at a place takes from
abbrev pub FromFindings : Option Layout → RuleList → ℕ → Rule → List Finding → Type 0
FromFindings layout list place (Match pattern source side target from) found =
    Said (IsUnknown layout from) (UnknownItem list place from) found
FromFindings layout list place rule found = found ≡ []

-- what is found in the rule at a place
pub record OneFindings (layout : Option Layout) (list : RuleList) (place : ℕ) (rule : Rule)
    (found : List Finding) : Type 0 where
  pub of_name : List Finding
  pub of_paths : List Finding
  pub found_are : found ≡ of_name ++ of_paths
  pub names : FromFindings layout list place rule of_name
  pub paths : Said (NamesParameter rule) (Parameter list place) of_paths

-- what is found in a list: in the whole, and then in each rule in order. MATCH may take from what
-- the layout has, where there is one
pub record ListFindings (layout : Option Layout) (list : RuleList) (rules : List Rule)
    (found : List Finding) : Type 0 where
  pub of_whole : List Finding
  pub of_each : List Finding
  pub found_are : found ≡ of_whole ++ of_each
  pub whole : WholeFindings list rules of_whole
  pub each : Joined (OneFindings layout list) rules of_each
