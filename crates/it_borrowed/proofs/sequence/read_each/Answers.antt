use Rattle.it_borrowed.proofs.ListItems.{each_more, each_none}
use Rattle.it_borrowed.proofs.sequence.read_each.Goals as goal

pub returns-in_default : goal.returns-in_default
returns-in_default g c =
    let here = rw c.deref-item-items.ensures.value at c.item-item.is in
    let below = rw c.deref-item-items.ensures.value at c.loop-item-test.true in
    each_none g.T.FromBorrowed.is_of c.args.items.now.items c.loop-item.item-index
    c.item-item.result below here
    (rw c.in_default.is at c.in_ok-value.ensures)

pub loop-item-preserved : goal.loop-item-preserved
loop-item-preserved g c =
    let here = rw c.deref-item-items.ensures.value at c.item-item.is in
    let below = rw c.deref-item-items.ensures.value at c.loop-item-test.true in
    rw c.in_ok-push.ensures.items
    (each_more g.T.FromBorrowed.is_of c.args.items.now.items c.loop-item.item-index
    c.item-item.result
    c.loop-item.values.items c.in-Some.value below here c.loop-item.invariant
    (rw c.in-Some.is at c.in_ok-value.ensures))
