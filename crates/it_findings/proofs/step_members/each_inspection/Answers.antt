use Rattle.std.proofs.Common.{◌≤◌, length, arith}
use Rattle.it_findings.specs.Members.{InspectionMembers}
use Rattle.it_findings.proofs.NullLists.{joined_item, joined_items}
use Rattle.it_findings.proofs.step_members.each_inspection.Goals as goal

pub loop-place-preserved : goal.loop-place-preserved
loop-place-preserved c =
    let here = rw c.deref-inspection-items.ensures.value at c.inspection-item.is in
    let below = rw c.deref-inspection-items.ensures.value at c.loop-place-test.true in
    rw c.in_ok-append.ensures.items
    (joined_item InspectionMembers c.args.inspections.now.items c.loop-place.place
    c.inspection-item.result c.loop-place.found.items c.in_ok-here.here.items below here
    c.loop-place.invariant c.in_ok-here.ensures)

pub returns : goal.returns
returns c =
    let ends : length c.deref-inspection-items.result.now ≤ c.loop-place.place = omega arith in
    let within = rw c.deref-inspection-items.ensures.value at ends in
    joined_items InspectionMembers c.args.inspections.now.items c.loop-place.place
    c.loop-place.found.items within c.loop-place.invariant
