use Rattle.std.proofs.Common.{map, take}
use Rattle.it_borrowed.specs.Tree.{as_data}
use Rattle.it_findings.specs.Joined.{Joined}
use Rattle.it_findings.specs.Members.{InspectionMembers}
use Rattle.it_findings.proofs.step_members.each_inspection.Given as goal

abbrev pub invariant-loop-place : goal.invariant-loop-place
invariant-loop-place l =
    Joined InspectionMembers (take l.place (map as_data l.inspections.items)) l.found.items
