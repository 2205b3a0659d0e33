use Rattle.it_borrowed.proofs.ListItems.{each_more, each_none}
use Rattle.it_docs.specs.Statement.{IsSubject}
use Rattle.it_docs.proofs.statement.read_subjects.Goals as goal

pub returns-in_default : goal.returns-in_default
returns-in_default c =
    let here = rw c.deref-item-items.ensures.value at c.item-item.is in
    let below = rw c.deref-item-items.ensures.value at c.loop-item-test.true in
    each_none IsSubject c.args.items.now.items c.loop-item.item-index c.item-item.result below here
    c.in_default.ensures

pub loop-item-preserved : goal.loop-item-preserved
loop-item-preserved c =
    let here = rw c.deref-item-items.ensures.value at c.item-item.is in
    let below = rw c.deref-item-items.ensures.value at c.loop-item-test.true in
    rw c.in_ok-push.ensures.items
    (each_more IsSubject c.args.items.now.items c.loop-item.item-index c.item-item.result
    c.loop-item.subjects.items c.in-Some.digests below here c.loop-item.invariant c.in-Some.ensures)
