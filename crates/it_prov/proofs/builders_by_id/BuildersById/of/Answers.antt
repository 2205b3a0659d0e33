use Rattle.std.proofs.Common.{◌≤◌, Some, arith, length, refl}
use Rattle.std.specs.List.{slice_get}
use Rattle.std.proofs.lemmas.Option.{slice_get_read}
use Rattle.it_prov.proofs.Possible.{all_below, below_more}
use Rattle.it_prov.proofs.builders_by_id.BuildersById.of.Goals as goal

pub loop-place-preserved : goal.loop-place-preserved
loop-place-preserved c =
    let builders = c.as_slice-builder-items.result.now in
    let i = c.loop-place.place in
    below_more builders i c.builder-item.result c.loop-place.ids c.put_under_ids.new.ids
    (slice_get_read builders (length builders) i c.builder-item.result refl c.loop-place-test.true
    c.builder-item.is)
    c.loop-place.invariant c.in_ok-put_under_ids.ensures.kept c.in_ok-put_under_ids.ensures.under

pub returns-clause-listed : goal.returns-clause-listed
returns-clause-listed c =
    let past : length c.as_slice-builder-items.result.now ≤ c.loop-place.place =
    omega (arith, c.loop-place-test.false) in
    rw c.as_slice-builder-items.ensures.value at (all_below c.as_slice-builder-items.result.now
    c.loop-place.place c.loop-place.ids past c.loop-place.invariant)
