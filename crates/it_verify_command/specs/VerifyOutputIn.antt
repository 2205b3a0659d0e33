-- Whether a delivery is accepted, as a text in a form that is asked for (this profile's choice of
-- the text).
use Rattle.std.specs.Prelude.{◌≡◌, ℕ, List}
use Rattle.it_dsse.specs.Panel.{Panel}
use Rattle.it_outcome.specs.declared.outcome.Status.{Status}
use Rattle.it_report.specs.declared.verdict.Verdict.{Verdict}
use Rattle.it_verify.specs.Verdict.{IsVerdict}
use Rattle.it_verify.specs.VerifyOutput.{status_of}
use Rattle.it_verify.specs.declared.inputs.Inputs.{Inputs}
use Rattle.it_vouched.specs.declared.vouched.Vouched.{Vouched}
use Rattle.it_verify_command.specs.FullOutput.{IsTextIn}
use Rattle.it_verify_command.specs.declared.output_form.OutputForm.{OutputForm}

-- the text is the output for the verdict on the inputs in this form, and the status says whether it
-- accepts
pub record IsVerifyOutputIn (form : OutputForm) (panel : Panel) (vouched : List Vouched)
    (inputs : Inputs) (text : List ℕ) (status : Status) : Type 0 where
  pub verdict : Verdict
  pub is_verdict : IsVerdict panel inputs verdict
  pub text_is : IsTextIn form panel vouched inputs verdict text
  pub status_is : status ≡ status_of verdict
