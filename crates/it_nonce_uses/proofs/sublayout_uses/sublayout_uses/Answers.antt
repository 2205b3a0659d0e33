use Rattle.it_findings.proofs.Joining.{joined_more}
use Rattle.it_nonce_uses.specs.LayoutUses.{SublayoutUses}
use Rattle.it_nonce_uses.proofs.sublayout_uses.sublayout_uses.Goals as goal

pub loop-sublayout-preserved : goal.loop-sublayout-preserved
loop-sublayout-preserved g c =
    rw c.in_ok-append.ensures.items
    (joined_more (λ place sublayout here. SublayoutUses (g.C.Checks.panel c.args.checks.now)
    c.args.links.now sublayout here) c.args.sublayouts.now c.loop-sublayout.sublayout-index
    c.sublayout-item.result c.loop-sublayout.uses.items c.in_ok-here.here.items
    c.loop-sublayout-test.true c.sublayout-item.is c.loop-sublayout.invariant
    c.in_ok-here.ensures)
