use Rattle.std.proofs.Common.{map, take}
use Rattle.it_borrowed.specs.Tree.{as_data}
use Rattle.it_findings.specs.Joined.{Joined}
use Rattle.it_findings.specs.NullKeys.{ExpectationNulls}
use Rattle.it_findings.proofs.null_keys.each_expectation.Given as goal

abbrev pub invariant-loop-place : goal.invariant-loop-place
invariant-loop-place l = Joined ExpectationNulls (take l.place (map as_data l.expectations.items)) l.found.items
