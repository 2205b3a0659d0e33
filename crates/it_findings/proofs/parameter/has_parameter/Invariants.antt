use Rattle.std.proofs.Common.{◌↔◌, length}
use Rattle.it_findings.specs.Parameters.{HasParameter}
use Rattle.it_findings.proofs.parameter.has_parameter.Given as goal

abbrev pub invariant-loop-first : goal.invariant-loop-first
invariant-loop-first l = HasParameter l.rest ↔ HasParameter l.text

abbrev pub decreases-loop-first : goal.decreases-loop-first
decreases-loop-first l = length l.rest
