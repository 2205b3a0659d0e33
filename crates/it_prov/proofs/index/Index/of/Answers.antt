use Rattle.it_prov.proofs.Indexing.{indexed_more, indexed_none}
use Rattle.it_prov.proofs.index.Index.of.Goals as goal
use Rattle.it_prov.proofs.index.Index.of.Goals.{in-Some+in_ok-add_each, in_default}

pub loop-place-preserved : goal.loop-place-preserved
loop-place-preserved c =
    let held = c.args.held.now in
    let i = c.loop-place.place in
    elim c.match-one.branch [
      | in-Some+in_ok-add_each w ↦ rw w.index-is (indexed_more held i c.loop-place-test.true
          c.loop-place.index c.loop-place.invariant w.in-Some.attestation
          (rw w.in-Some.is at c.index-held-place.is) w.add_each.new.self
          (rw w.as_slice.ensures at w.in_ok-add_each.ensures))
      | in_default w ↦ rw w.index-is (indexed_none held i c.loop-place-test.true
          c.loop-place.index c.loop-place.invariant (rw w.in_default.is at c.index-held-place.is))
    ]
