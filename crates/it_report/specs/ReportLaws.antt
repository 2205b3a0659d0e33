-- What is shown of the report and of the names in it.
use Rattle.std.specs.Prelude.{◌≡◌, ◌≢◌, ℕ, ◌<◌, ◌≤◌, ◌^◌, List, All, Contains, IfSome}
use Rattle.it_docs.specs.declared.layout_fault.LayoutPart.{LayoutPart}
use Rattle.it_docs.specs.declared.layout_fault.LayoutPart.TheVariants.{Step, Inspect}
use Rattle.it_docs.specs.declared.policy_fault.PolicyPart.{PolicyPart}
use Rattle.it_docs.specs.declared.policy_fault.PolicyPart.TheVariants.{Expectation}
use Rattle.it_report.specs.Name.{name_form}
use Rattle.it_report.specs.Report.{first_line, report_of}
use Rattle.it_report.specs.declared.refusal.Fault.{Fault}
use Rattle.it_report.specs.declared.refusal.Fault.TheVariants.{BadPolicy, BadSums, BadSums512}
use Rattle.it_report.specs.declared.refusal.Fault.TheVariants.{BadLayout}
use Rattle.it_report.specs.declared.refusal.Fault.TheVariants.{Threshold, RuleFailed, NoProvenance}
use Rattle.it_report.specs.declared.verdict.Verdict.{Verdict}
use Rattle.it_report.specs.declared.verdict.Verdict.TheVariants.{Accepted, Refused}

-- reports differ where their first lines do
abbrev pub FirstLinesTell : Type 0
FirstLinesTell = (a b : Verdict) → first_line a ≢ first_line b → report_of a ≢ report_of b

-- a verdict's numbers fit in the program's integers
abbrev pub StepFits : List ℕ × ℕ → Type 0
StepFits step = step.1 < 2 ^ 64

abbrev pub PolicyPartFits : PolicyPart → Type 0
PolicyPartFits (Expectation n) = n < 2 ^ 64
PolicyPartFits part = Unit {0}

abbrev pub LayoutPartFits : LayoutPart → Type 0
LayoutPartFits (Step n) = n < 2 ^ 64
LayoutPartFits (Inspect n) = n < 2 ^ 64
LayoutPartFits part = Unit {0}

abbrev pub FaultFits : Fault → Type 0
FaultFits (BadPolicy part) = PolicyPartFits part
FaultFits (BadSums n) = n < 2 ^ 64
FaultFits (BadSums512 n) = n < 2 ^ 64
FaultFits (BadLayout part) = LayoutPartFits part
FaultFits (Threshold step found needed) = (found < 2 ^ 64) × (needed < 2 ^ 64)
FaultFits (RuleFailed item side index path) = index < 2 ^ 64
FaultFits (NoProvenance path best) = IfSome best (λ level. level < 2 ^ 64)
FaultFits fault = Unit {0}

abbrev pub NumbersFit : Verdict → Type 0
NumbersFit (Accepted steps files) = All StepFits steps
NumbersFit (Refused refusal) = FaultFits refusal.fault

-- whoever reads a report knows the verdict
abbrev pub ReportTells : Type 0
ReportTells = (a b : Verdict) → NumbersFit a → NumbersFit b → report_of a ≡ report_of b → a ≡ b

-- names that are written alike are the same
abbrev pub FormsTell : Type 0
FormsTell = (a b : List ℕ) → name_form a ≡ name_form b → a ≡ b

-- a written name is one word of one line: it has no space, no line feed, and no other byte below
-- 0x21
abbrev pub FormsAreWords : Type 0
FormsAreWords = (name : List ℕ) (byte : ℕ) → byte ≤ 0x20 → ¬ Contains (name_form name) byte
