use Rattle.it_borrowed.proofs.ListItems.{each_more}
use Rattle.it_borrowed.proofs.Listed.{first_bad}
use Rattle.it_borrowed.proofs.list.read_numbered.Goals as goal

pub returns-in_default : goal.returns-in_default
returns-in_default g c =
    let here = rw c.deref-item-items.ensures.value at c.item-item.is in
    let below = rw c.deref-item-items.ensures.value at c.loop-place-test.true in
    first_bad g.T.FromBorrowed.is_of c.args.items.now.items c.loop-place.place c.item-item.result
    c.loop-place.values.items below here
    (rw c.in_default.is at c.in_ok-value.ensures) c.loop-place.invariant

pub loop-place-preserved : goal.loop-place-preserved
loop-place-preserved g c =
    let here = rw c.deref-item-items.ensures.value at c.item-item.is in
    let below = rw c.deref-item-items.ensures.value at c.loop-place-test.true in
    rw c.in_ok-push.ensures.items
    (each_more g.T.FromBorrowed.is_of c.args.items.now.items c.loop-place.place c.item-item.result
    c.loop-place.values.items c.in-Some.value below here c.loop-place.invariant
    (rw c.in-Some.is at c.in_ok-value.ensures))
