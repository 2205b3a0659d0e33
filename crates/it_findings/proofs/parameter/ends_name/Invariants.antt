use Rattle.std.proofs.Common.{◌↔◌, length}
use Rattle.it_findings.specs.Parameters.{EndsName}
use Rattle.it_findings.proofs.parameter.ends_name.Given as goal

abbrev pub invariant-loop-first : goal.invariant-loop-first
invariant-loop-first l = EndsName l.rest ↔ EndsName l.text

abbrev pub decreases-loop-first : goal.decreases-loop-first
decreases-loop-first l = length l.rest
