use Rattle.it_borrowed.proofs.ListItems.{each_more, each_none}
use Rattle.it_log_entry.specs.InclusionProof.{IsHash}
use Rattle.it_log_entry.proofs.hash.read_hashes.Goals as goal

pub returns-in_default : goal.returns-in_default
returns-in_default c =
    let here = rw c.deref-item-items.ensures.value at c.item-item.is in
    let below = rw c.deref-item-items.ensures.value at c.loop-item-test.true in
    each_none IsHash c.args.items.now.items c.loop-item.item-index c.item-item.result below here
    (rw c.in_default.is at c.in_ok-hash.ensures)

pub loop-item-preserved : goal.loop-item-preserved
loop-item-preserved c =
    let here = rw c.deref-item-items.ensures.value at c.item-item.is in
    let below = rw c.deref-item-items.ensures.value at c.loop-item-test.true in
    rw c.in_ok-push.ensures.items
    (each_more IsHash c.args.items.now.items c.loop-item.item-index c.item-item.result
    c.loop-item.hashes.items c.in-Some.hash below here c.loop-item.invariant
    (rw c.in-Some.is at c.in_ok-hash.ensures))
