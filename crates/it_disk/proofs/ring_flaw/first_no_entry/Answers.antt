use Rattle.std.proofs.Common.{◌∙◌, Some, refl, sym, ap}
use Rattle.serde_json.specs.View.{view}
use Rattle.serde_json.proofs.Views.{get_item_within}
use Rattle.it_disk.proofs.ring_flaw.first_no_entry.Goals as goal

pub returns-in-Some : goal.returns-in-Some
returns-in-Some c =
    let items = c.args.items.now in
    let item = c.index-items-place.result in
    let found = get_item_within items c.loop-place.place item c.loop-place-test.true in
    record {
      before = c.loop-place.place;
      place_is = refl;
      item = view item;
      is_item = sym found ∙ ap (λ value. Some (view value)) (sym c.index-items-place.is);
      is_flaw = rw c.in-Some.is at c.in_ok-flaw.ensures;
    }
