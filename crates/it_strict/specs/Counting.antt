-- Which findings in a layout count where a delivery is accepted (this project's choice).
use Rattle.std.specs.FinMap.{empty}
use Rattle.std.specs.List.{slice_get}
use Rattle.std.specs.Prelude.{◌≢◌, ℕ, List, MatchOption, ⊤}
use Rattle.it_docs.specs.declared.layout.Layout.{Layout}
use Rattle.it_docs.specs.declared.rule.Side.{Side}
use Rattle.it_rules.specs.Item.{artifacts_on}
use Rattle.it_chain.specs.StepRules.{recorded_in}
use Rattle.it_chain.specs.declared.chain.StepResult.{StepResult}
use Rattle.it_findings.specs.Joined.{Joined, Said}
use Rattle.it_findings.specs.LayoutFindings.{LayoutFindings}
use Rattle.it_findings.specs.Members.{MembersOfLayout}
use Rattle.it_findings.specs.NoThresholds.{NoThresholdsOf}
use Rattle.it_findings.specs.NullKeys.{LayoutNulls, NullsOf}
use Rattle.it_findings.specs.declared.finding.Finding.{Finding}
use Rattle.it_findings.specs.declared.finding.Finding.TheVariants.{NoRules}
use Rattle.it_findings.specs.declared.finding.RuleList.TheVariants.{OfStep}
use Rattle.it_findings.specs.declared.member_finding.MemberFinding.{MemberFinding}
use Rattle.it_findings.specs.declared.null_key.NullKey.{NullKey}
use Rattle.it_check.specs.CheckOutput.{IsFound, layout_gaps}

-- the step at a place recorded some path on a side
abbrev pub HasPath : List StepResult → ℕ → Side → Type 0
HasPath steps place side =
    MatchOption (slice_get steps place) ⊥
    (λ result. artifacts_on side (recorded_in result) ≢ empty)

-- a finding counts; that a side of a step has no rules counts only where the step recorded some
-- path on that side
abbrev pub Counts : List StepResult → Finding → Type 0
Counts steps (NoRules (OfStep place name side)) = HasPath steps place side
Counts steps finding = ⊤

-- what counts of all findings, in their order
abbrev pub AreCounting : List StepResult → List Finding → List Finding → Type 0
AreCounting steps all counting =
    Joined (λ place finding here. Said (Counts steps finding) finding here) all counting

-- what is found in a layout, which is read from this payload, and counts
pub record LayoutCounting (payload : List ℕ) (layout : Layout) (steps : List StepResult)
    (counting : List Finding) : Type 0 where
  pub members : List MemberFinding
  pub nulls : List NullKey
  pub places : List ℕ
  pub all : List Finding
  pub are_members : MembersOfLayout payload members
  pub are_nulls : NullsOf LayoutNulls payload nulls
  pub are_places : NoThresholdsOf payload places
  pub are_all : IsFound (layout_gaps members nulls places) (LayoutFindings layout) all
  pub are_counting : AreCounting steps all counting
