-- What is proved about the definitions of a whole verification.
use Rattle.std.specs.List.{AllZip}
use Rattle.std.specs.Prelude.{◌≡◌, ◌⊎◌, ℕ, List, Option, ◌≤◌, ◌↔◌}
use Rattle.it_dsse.specs.Panel.{Panel}
use Rattle.it_report.specs.declared.refusal.Fault.{Fault}
use Rattle.it_report.specs.declared.refusal.Fault.TheVariants.{Threshold, NoProvenance}
use Rattle.it_report.specs.declared.refusal.Refusal.{Refusal}
use Rattle.it_report.specs.declared.verdict.Verdict.{Verdict}
use Rattle.it_report.specs.declared.verdict.Verdict.TheVariants.{Refused, Accepted}
use Rattle.it_outcome.specs.declared.outcome.Status.{Status}
use Rattle.it_verify.specs.Documents.{Documents}
use Rattle.it_verify.specs.Evidence.{Evidence}
use Rattle.it_verify.specs.InputsAlike.{InputsAlike, InputsWithin}
use Rattle.it_verify.specs.Made.{IsMadeBy, Made, verdict_of}
use Rattle.it_verify.specs.PanelsAlike.{PanelsAlikeFor}
use Rattle.it_verify.specs.RefusedFor.{Stage, FailsAt, RefusedFor}
use Rattle.it_verify.specs.Verdict.{IsVerdict}
use Rattle.it_verify.specs.VerifyOutput.{IsVerifyOutput}
use Rattle.it_verify.specs.declared.inputs.Inputs.{Inputs}

-- what was made as the owners prescribed has no first fault
abbrev pub MadeNotRefused : Type 0
MadeNotRefused =
    (panel : Panel) (inputs : Inputs) (refusal : Refusal) → Made panel inputs
    → ¬ RefusedFor panel inputs refusal

-- delivered files were made as the owners prescribed, or there is a first fault
abbrev pub MadeOrRefused : Type 0
MadeOrRefused =
    (panel : Panel) (inputs : Inputs)
    → Made panel inputs ⊎ ((refusal : Refusal) × RefusedFor panel inputs refusal)

-- delivered files were made as the owners prescribed exactly where no stage fails
abbrev pub MadeOrFirst : Type 0
MadeOrFirst =
    (panel : Panel) (inputs : Inputs)
    → Made panel inputs
    ↔ ((stage : Stage) (refusal : Refusal) → ¬ FailsAt panel inputs stage refusal)

-- there is at most one first fault
abbrev pub RefusalIsOne : Type 0
RefusalIsOne =
    (panel : Panel) (inputs : Inputs) (a b : Refusal) → RefusedFor panel inputs a
    → RefusedFor panel inputs b → a ≡ b

-- whatever documents and evidence show that the files were made as the owners prescribed, the
-- verdict is the same
abbrev pub VerdictIsOne : Type 0
VerdictIsOne =
    (panel : Panel) (inputs : Inputs) (documents other : Documents) (evidence given : Evidence)
    → IsMadeBy panel inputs documents evidence → IsMadeBy panel inputs other given
    → verdict_of documents evidence ≡ verdict_of other given

-- two verifications have the same outcome: the same verdict and the same report
pub record HasSameOutcome (panel : Panel) (inputs : Inputs) (another : Panel) (other : Inputs)
    : Type 0 where
  pub verdict : (verdict : Verdict)
      → IsVerdict panel inputs verdict ↔ IsVerdict another other verdict
  pub report : (text : List ℕ) (status : Status)
      → IsVerifyOutput panel inputs text status ↔ IsVerifyOutput another other text status

-- inputs in which the same things count have the same outcome
abbrev pub AlikeInputs : Type 0
AlikeInputs =
    (panel : Panel) (inputs other : Inputs) → InputsAlike panel inputs other
    → HasSameOutcome panel inputs panel other

-- inputs have the same outcome with panels that are alike on every key that could be asked for
abbrev pub AlikePanels : Type 0
AlikePanels =
    (panel other : Panel) (inputs : Inputs) → PanelsAlikeFor panel other inputs
    → HasSameOutcome panel inputs other inputs

-- the same step, with no more different keys
abbrev pub HasNoMoreKeys : List ℕ × ℕ → List ℕ × ℕ → Type 0
HasNoMoreKeys step before = (step.0 ≡ before.0) × (step.1 ≤ before.1)

-- too few different keys signed, or a delivered file has no provenance, whatever the best level is
abbrev pub IsWithheld : Fault → Type 0
IsWithheld fault =
    ((step : List ℕ) × (found : ℕ) × (needed : ℕ) × (fault ≡ Threshold step found needed))
    ⊎ ((path : List ℕ) × (best : Option ℕ) × (fault ≡ NoProvenance path best))

-- a verdict only withholds what an earlier one accepted: it accepts the same steps and files, no
-- step having more keys, or refuses for what is withheld
abbrev pub OnlyWithholds : Verdict → Verdict → Type 0
OnlyWithholds (Accepted steps files) (Accepted before all) =
    AllZip HasNoMoreKeys steps before × (files ≡ all)
OnlyWithholds (Accepted steps files) (Refused refusal) = ⊥
OnlyWithholds (Refused refusal) before = IsWithheld refusal.fault

-- removing what counts from what was made as the owners prescribed can only withhold
abbrev pub WithheldInputs : Type 0
WithheldInputs =
    (panel : Panel) (inputs other : Inputs) (documents : Documents) (evidence : Evidence)
    (verdict : Verdict) → InputsWithin panel inputs other
    → IsMadeBy panel other documents evidence → IsVerdict panel inputs verdict
    → OnlyWithholds verdict (verdict_of documents evidence)
