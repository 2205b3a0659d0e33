use Rattle.it_base.proofs.Items.{each_more}
use Rattle.itv_cases.specs.Part.{IsNamed}
use Rattle.itv_cases.proofs.cases.parts.each_named.Goals as goal

pub loop-item-preserved : goal.loop-item-preserved
loop-item-preserved c =
    let here = rw c.deref-item-items.ensures.value at c.item-item.is in
    let below = rw c.deref-item-items.ensures.value at c.loop-item-test.true in
    rw c.in_ok-push.ensures.items
    (each_more IsNamed c.args.items.now.items c.loop-item.item-index c.item-item.result
    c.loop-item.named.items c.in-Some.pair below here c.loop-item.invariant
    (rw c.in-Some.is at c.in_ok-pair.ensures))
