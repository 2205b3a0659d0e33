use Rattle.std.proofs.Common.{map, take}
use Rattle.it_borrowed.specs.Tree.{as_data}
use Rattle.it_findings.specs.Joined.{Joined}
use Rattle.it_findings.specs.Members.{ExpectationMembers}
use Rattle.it_findings.proofs.members.each_expectation.Given as goal

abbrev pub invariant-loop-place : goal.invariant-loop-place
invariant-loop-place l =
    Joined ExpectationMembers (take l.place (map as_data l.expectations.items)) l.found.items
