use Rattle.std.proofs.Common.{◌↔◌, length}
use Rattle.it_findings.specs.Closed.{IsClosed}
use Rattle.it_findings.proofs.closed.is_closed.Given as goal

abbrev pub invariant-loop-rule : goal.invariant-loop-rule
invariant-loop-rule l = IsClosed l.list l.rest ↔ IsClosed l.list l.rules

abbrev pub decreases-loop-rule : goal.decreases-loop-rule
decreases-loop-rule l = length l.rest
