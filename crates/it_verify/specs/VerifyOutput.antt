-- Whether a delivery is accepted, as a text (this profile's choice of the text).
use Rattle.std.specs.Prelude.{◌≡◌, ℕ, List}
use Rattle.it_dsse.specs.Panel.{Panel}
use Rattle.it_report.specs.Report.{report_of}
use Rattle.it_report.specs.declared.verdict.Verdict.{Verdict}
use Rattle.it_report.specs.declared.verdict.Verdict.TheVariants.{Accepted, Refused as refused_for}
use Rattle.it_outcome.specs.declared.outcome.Status.{Status}
use Rattle.it_outcome.specs.declared.outcome.Status.TheVariants.{Refused, Good}
use Rattle.it_verify.specs.Verdict.{IsVerdict}
use Rattle.it_verify.specs.declared.inputs.Inputs.{Inputs}

-- the status of the command for a verdict: good where it accepts
abbrev pub status_of : Verdict → Status
status_of (Accepted steps files) = Good
status_of (refused_for refusal) = Refused

-- the text is the report of the verdict on the inputs, and the status says whether it accepts
pub record IsVerifyOutput (panel : Panel) (inputs : Inputs) (text : List ℕ)
    (status : Status) : Type 0 where
  pub verdict : Verdict
  pub is_verdict : IsVerdict panel inputs verdict
  pub text_is : text ≡ report_of verdict
  pub status_is : status ≡ status_of verdict
