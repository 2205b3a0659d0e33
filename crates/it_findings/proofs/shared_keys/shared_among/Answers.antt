use Rattle.it_findings.specs.SharedKeys.{SharedIn}
use Rattle.it_findings.proofs.Joining.{joined_more}
use Rattle.it_findings.proofs.shared_keys.shared_among.Goals as goal

pub loop-at-preserved : goal.loop-at-preserved
loop-at-preserved c =
    rw c.in_ok-append.ensures.items
    (joined_more (λ n held here. SharedIn c.args.uses.now held here) c.args.uses.now
    c.loop-at.at-index c.at-item.result c.loop-at.found.items c.in_ok-here.here.items
    c.loop-at-test.true c.at-item.is c.loop-at.invariant c.in_ok-here.ensures)
