use Rattle.it_prov.proofs.NameSets.{sets_more}
use Rattle.it_prov.proofs.parameters.ignored_by.Goals as goal

pub loop-expectation-preserved : goal.loop-expectation-preserved
loop-expectation-preserved c =
    rw c.in_ok-push.ensures.items (sets_more c.args.expectations.now c.loop-expectation.sets.items
    c.loop-expectation.expectation-index c.expectation-item.result c.in_ok-set_of.field-0
    c.loop-expectation-test.true c.expectation-item.is (rw (← c.as_slice.ensures)
    c.in_ok-set_of.ensures) c.loop-expectation.invariant)
