-- The answer of a verification (a word of this project).
use Rattle.std.specs.Prelude.{◌≡◌, Ok}
use Rattle.it_dsse.specs.Panel.{Panel}
use Rattle.it_outcome.specs.Outcome.{exit_status}
use Rattle.it_verify.specs.VerifyOutput.{IsVerifyOutput}
use Rattle.it_verify.specs.declared.inputs.Inputs.{Inputs}
use Rattle.it_outcome.specs.declared.outcome.Status.{Status}
use Rattle.itv_cases.specs.declared.cases.answer.Answer.{Answer}

-- the report is that of the verdict on the inputs, and the status is the exit status that goes with
-- it
pub record IsAnswer (panel : Panel) (inputs : Inputs) (answer : Answer) : Type 0 where
  pub found : Status
  pub is_output : IsVerifyOutput panel inputs answer.report found
  pub status_is : answer.status ≡ exit_status (Ok found)
