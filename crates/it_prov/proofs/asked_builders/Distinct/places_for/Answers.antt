use Rattle.it_prov.proofs.Distinct.{placed_more}
use Rattle.it_prov.proofs.asked_builders.Distinct.places_for.Goals as goal

pub loop-builder-preserved : goal.loop-builder-preserved
loop-builder-preserved c = rw c.in_ok-push.ensures.items (placed_more c.args.self.now.builders.items
    c.loop-builder.self.builders.items c.place_for.new.self.builders.items c.args.builders.now
    c.loop-builder.builder-index c.builder-item.result c.loop-builder.places.items
    c.in_ok-place_for.field-0 c.loop-builder-test.true c.builder-item.is c.loop-builder.invariant
    c.in_ok-place_for.ensures)
