use Rattle.std.proofs.Common.{◌≤◌, length, arith}
use Rattle.it_findings.specs.Members.{ExpectationMembers}
use Rattle.it_findings.proofs.NullLists.{joined_item, joined_items}
use Rattle.it_findings.proofs.members.each_expectation.Goals as goal

pub loop-place-preserved : goal.loop-place-preserved
loop-place-preserved c =
    let here = rw c.deref-expectation-items.ensures.value at c.expectation-item.is in
    let below = rw c.deref-expectation-items.ensures.value at c.loop-place-test.true in
    rw c.in_ok-append.ensures.items
    (joined_item ExpectationMembers c.args.expectations.now.items c.loop-place.place
    c.expectation-item.result c.loop-place.found.items c.in_ok-here.here.items below here
    c.loop-place.invariant c.in_ok-here.ensures)

pub returns : goal.returns
returns c =
    let ends : length c.deref-expectation-items.result.now ≤ c.loop-place.place = omega arith in
    let within = rw c.deref-expectation-items.ensures.value at ends in
    joined_items ExpectationMembers c.args.expectations.now.items c.loop-place.place
    c.loop-place.found.items within c.loop-place.invariant
