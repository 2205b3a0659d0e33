use Rattle.std.proofs.Common.{◌≤◌, length, arith}
use Rattle.it_findings.specs.Members.{BuilderMembers}
use Rattle.it_findings.proofs.NullLists.{joined_item, joined_items}
use Rattle.it_findings.proofs.members.each_builder.Goals as goal

pub loop-place-preserved : goal.loop-place-preserved
loop-place-preserved c =
    let here = rw c.deref-builder-items.ensures.value at c.builder-item.is in
    let below = rw c.deref-builder-items.ensures.value at c.loop-place-test.true in
    rw c.in_ok-append.ensures.items
    (joined_item (BuilderMembers c.args.expectation) c.args.builders.now.items c.loop-place.place
    c.builder-item.result c.loop-place.found.items c.in_ok-here.here.items below here
    c.loop-place.invariant c.in_ok-here.ensures)

pub returns : goal.returns
returns c =
    let ends : length c.deref-builder-items.result.now ≤ c.loop-place.place = omega arith in
    let within = rw c.deref-builder-items.ensures.value at ends in
    joined_items (BuilderMembers c.args.expectation) c.args.builders.now.items c.loop-place.place
    c.loop-place.found.items within c.loop-place.invariant
