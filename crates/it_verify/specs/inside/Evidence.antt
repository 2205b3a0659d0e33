-- Why no evidence is gathered, in terms of the definitions.
use Rattle.std.specs.Prelude.{List, Option, None, Some, Result, Ok, Err, IfSome}
use Rattle.it_chain.specs.Judged.{AreStepRecords}
use Rattle.it_chain.specs.declared.chain.Chain.{Chain as ChainOf}
use Rattle.it_chain.specs.declared.chain.StepResult.{StepResult}
use Rattle.it_chain.specs.declared.judged.JudgedChain.{JudgedChain}
use Rattle.it_chain.specs.declared.refusal.ChainError.{ChainError}
use Rattle.it_chain.specs.declared.refusal.ChainRefusal.{ChainRefusal}
use Rattle.it_dsse.specs.Panel.{Panel}
use Rattle.it_verify.specs.Documents.{Documents, setting_of}
use Rattle.it_verify.specs.Grounds.{HasLines}
use Rattle.it_verify.specs.RefusedFor.{RefusedFor}
use Rattle.it_verify.specs.Refusals.{refusal_of}
use Rattle.it_verify.specs.inside.Failures.{RefusedAs, failure_of}
use Rattle.it_verify.specs.declared.evidence.Ungathered.{Ungathered}
use Rattle.it_verify.specs.declared.failure.Failure.TheVariants.{Refused}
use Rattle.it_verify.specs.declared.inputs.Inputs.{Inputs}

-- why a layout does not hold for its links, where its steps have no records
abbrev pub unheld : ChainError → Ungathered
unheld error = record { failure = failure_of error; steps = None }

abbrev pub held_by : ChainOf → Option ChainRefusal → Result (List StepResult) Ungathered
held_by chain None = Ok chain.steps
held_by chain (Some refusal) =
    Err (record { failure = Refused (refusal_of refusal); steps = Some chain.steps })

-- the records of the steps where the rules hold over them, and else why not, with the records
abbrev pub held : JudgedChain → Result (List StepResult) Ungathered
held judged = held_by judged.chain judged.failed

-- the refusal, if it is one, is the first fault, and it is no fault for which the lines of the
-- provenance are read; and these are the records of the steps, where there are any
pub record IsUngathered (panel : Panel) (inputs : Inputs) (documents : Documents)
    (stopped : Ungathered) : Type 0 where
  pub fails : RefusedAs (RefusedFor panel inputs) stopped.failure
  pub before_lines : RefusedAs (λ refusal. HasLines refusal.fault None) stopped.failure
  pub steps : IfSome stopped.steps (AreStepRecords (setting_of panel documents) inputs.depth
      documents.layout inputs.links)
