-- Why the delivered files are not found to be made as the owners prescribed, in terms of the
-- definitions.
use Rattle.std.specs.Prelude.{None, IfSome}
use Rattle.it_dsse.specs.Panel.{Panel}
use Rattle.it_prov.specs.ProvenanceLines.{AreLinesOf}
use Rattle.it_verify.specs.Grounds.{HasLines}
use Rattle.it_verify.specs.RefusedFor.{RefusedFor}
use Rattle.it_verify.specs.inside.Failures.{RefusedAs}
use Rattle.it_verify.specs.declared.failure.Failure.{Failure}
use Rattle.it_verify.specs.declared.inputs.Inputs.{Inputs}
use Rattle.it_verify.specs.declared.judging.Unjudged.{Unjudged}

-- a failure before the lines of the provenance were read
abbrev pub before_lines : Failure → Unjudged
before_lines failure = record { failure = failure; lines = None }

-- the refusal, if it is one, is the first fault, and these are the lines of the provenance, which
-- are there where it is that a file has no provenance
pub record IsUnjudged (panel : Panel) (inputs : Inputs) (stopped : Unjudged) : Type 0 where
  pub fails : RefusedAs (RefusedFor panel inputs) stopped.failure
  pub lines : IfSome stopped.lines (AreLinesOf inputs.provenance)
  pub has_lines : RefusedAs (λ refusal. HasLines refusal.fault stopped.lines) stopped.failure
