use Rattle.it_prov.proofs.Distinct.{asked_more}
use Rattle.it_prov.proofs.asked_builders.AskedBuilders.of.Goals as goal

pub loop-expectation-preserved : goal.loop-expectation-preserved
loop-expectation-preserved c = rw (c.in_ok-push.ensures.items, c.from.ensures) (asked_more
    c.loop-expectation.distinct.builders.items c.places_for.new.self.builders.items
    c.args.expectations.now c.loop-expectation.expectation-index c.expectation-item.result
    c.loop-expectation.places.items c.in_ok-of_one.of_one.items c.loop-expectation-test.true
    c.expectation-item.is c.loop-expectation.invariant
    (rw c.as_slice.ensures at c.in_ok-of_one.ensures))
