use Rattle.std.proofs.Common.{◌≤◌, length, arith}
use Rattle.it_findings.specs.Members.{StepMembers}
use Rattle.it_findings.proofs.NullLists.{joined_item, joined_items}
use Rattle.it_findings.proofs.step_members.each_step.Goals as goal

pub loop-place-preserved : goal.loop-place-preserved
loop-place-preserved c =
    let here = rw c.deref-step-items.ensures.value at c.step-item.is in
    let below = rw c.deref-step-items.ensures.value at c.loop-place-test.true in
    rw c.in_ok-append.ensures.items
    (joined_item StepMembers c.args.steps.now.items c.loop-place.place
    c.step-item.result c.loop-place.found.items c.in_ok-here.here.items below here
    c.loop-place.invariant c.in_ok-here.ensures)

pub returns : goal.returns
returns c =
    let ends : length c.deref-step-items.result.now ≤ c.loop-place.place = omega arith in
    let within = rw c.deref-step-items.ensures.value at ends in
    joined_items StepMembers c.args.steps.now.items c.loop-place.place
    c.loop-place.found.items within c.loop-place.invariant
