use Rattle.std.proofs.Common.{map, take}
use Rattle.it_borrowed.specs.Tree.{as_data}
use Rattle.it_findings.specs.Joined.{Joined}
use Rattle.it_findings.specs.NoThresholds.{NoThreshold}
use Rattle.it_findings.proofs.missing_thresholds.each_step.Given as goal

abbrev pub invariant-loop-place : goal.invariant-loop-place
invariant-loop-place l = Joined NoThreshold (take l.place (map as_data l.steps.items)) l.places.items
