-- What the answer to what was handed in is made of.
use Rattle.std.specs.Prelude.{◌≡◌, ℕ, List, [], MatchOption, Option, ⊤}
use Rattle.it_dsse.specs.Panel.{Panel}
use Rattle.it_evidence.specs.Evidence.{IsBehind}
use Rattle.it_json_report.specs.declared.evidence.Evidence.{Evidence}
use Rattle.it_outcome.specs.declared.outcome.Status.TheVariants.{Good}
use Rattle.it_report.specs.Report.{report_of}
use Rattle.it_report.specs.declared.verdict.Verdict.{Verdict}
use Rattle.it_report.specs.declared.verdict.Verdict.TheVariants.{Accepted, Refused}
use Rattle.it_strict.specs.Found.{IsNothing}
use Rattle.it_verify.specs.VerifyOutput.{status_of}
use Rattle.it_verify.specs.declared.inputs.Inputs.{Inputs}
use Rattle.it_vouched.specs.declared.vouched.Vouched.{Vouched}
use Rattle.it_notes.specs.Known.{IsTold}
use Rattle.it_verify_command.specs.FullOutput.{IsTextIn}
use Rattle.it_verify_command.specs.Strictly.{IsFoundIn, StandsStrictly}
use Rattle.it_verify_command.specs.declared.answer.Answer.{Answer}
use Rattle.it_verify_command.specs.declared.output_form.OutputForm.{OutputForm}
use Rattle.it_verify_command.specs.declared.output_form.OutputForm.TheVariants.{Full, Report}
use Rattle.it_verify_command.specs.declared.output_form.OutputForm.TheVariants.{Summary}
use Rattle.it_verify_command.specs.declared.strict_answer.StrictAnswer.{StrictAnswer}
use Rattle.it_verify_command.specs.declared.strict_answer.StrictAnswer.TheVariants.{Against}
use Rattle.it_verify_command.specs.declared.strict_answer.StrictAnswer.TheVariants.{Stands}

-- this stands behind a delivery, in the form that has it
abbrev pub IsBehindIn : OutputForm → Panel → List Vouched → Inputs → Option Evidence → Type 0
IsBehindIn (Report form) panel vouched inputs evidence = ⊤
IsBehindIn Full panel vouched inputs evidence =
    MatchOption evidence ⊥ (IsBehind panel vouched inputs)
IsBehindIn (Summary names) panel vouched inputs evidence =
    MatchOption evidence ⊥ (IsBehind panel vouched inputs)

-- the report in lines of a verdict that refuses
abbrev pub refusal_text : Verdict → List ℕ
refusal_text (Accepted steps files) = []
refusal_text (Refused refusal) = report_of (Refused refusal)

-- what goes before the notes in a form: that report, where a summary is asked for
abbrev pub before_notes : OutputForm → Verdict → List ℕ
before_notes (Report form) verdict = []
before_notes Full verdict = []
before_notes (Summary names) verdict = refusal_text verdict

-- the output is that on the verdict which was told, in this form
pub record IsAnswer (form : OutputForm) (panel : Panel) (vouched : List Vouched) (inputs : Inputs)
    (answer : Answer) : Type 0 where
  pub told : IsTold panel inputs answer.told
  pub text : IsTextIn form panel vouched inputs answer.told.verdict answer.output.text.items
  pub status : answer.output.status ≡ status_of answer.told.verdict
  pub before : answer.before_notes.items ≡ before_notes form answer.told.verdict

-- the same, and nothing is found in what is accepted
pub record StandsAs (form : OutputForm) (panel : Panel) (vouched : List Vouched) (inputs : Inputs)
    (answer : Answer) : Type 0 where
  pub is_answer : IsAnswer form panel vouched inputs answer
  pub stands : answer.output.status ≡ Good → StandsStrictly panel inputs

-- either that, or something is found in what would be accepted
abbrev pub IsStrictAnswer : OutputForm → Panel → List Vouched → Inputs → StrictAnswer → Type 0
IsStrictAnswer form panel vouched inputs (Stands answer) =
    StandsAs form panel vouched inputs answer
IsStrictAnswer form panel vouched inputs (Against found) =
    IsFoundIn panel inputs found × ¬ IsNothing found
