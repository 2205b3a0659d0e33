use Rattle.std.proofs.Common.{◌≤◌, length, arith}
use Rattle.it_findings.specs.NullKeys.{BuilderNulls}
use Rattle.it_findings.proofs.NullLists.{joined_item, joined_items}
use Rattle.it_findings.proofs.null_keys.each_builder.Goals as goal

pub loop-builder-preserved : goal.loop-builder-preserved
loop-builder-preserved c =
    let here = rw c.deref-item-items.ensures.value at c.item-item.is in
    let below = rw c.deref-item-items.ensures.value at c.loop-builder-test.true in
    rw c.in_ok-append.ensures.items
    (joined_item (BuilderNulls c.args.expectation) c.args.builders.now.items c.loop-builder.builder
    c.item-item.result c.loop-builder.found.items c.in_ok-here.here.items below here
    c.loop-builder.invariant c.in_ok-here.ensures)

pub returns : goal.returns
returns c =
    let ends : length c.deref-item-items.result.now ≤ c.loop-builder.builder = omega arith in
    let within = rw c.deref-item-items.ensures.value at ends in
    joined_items (BuilderNulls c.args.expectation) c.args.builders.now.items c.loop-builder.builder c.loop-builder.found.items within
    c.loop-builder.invariant
