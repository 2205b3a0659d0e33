use Rattle.std.proofs.Common.{◌≡◌, ◌∙◌, Some, None, refl, string_bytes}
use Rattle.std.specs.BTreeMap.{get_by_text}
use Rattle.std.specs.List.{IsDistinct}
use Rattle.std.proofs.lemmas.Map.Text.{btree_map_updates_text}
use Rattle.it_dsse.specs.Ring.{has_id}
use Rattle.it_dsse.proofs.Places.{not_there, placed_new, places_more, there}
use Rattle.it_dsse.proofs.RingIds.{distinct_more, stands_twice}
use Rattle.it_dsse.proofs.ring_index.places_of_ids.Goals as goal

pub loop-place-init : goal.loop-place-init
unfolding IsDistinct
loop-place-init c = record { placed = λ id. rw c.new-places.ensures.empty refl; distinct = tt }

pub returns-then-is_some : goal.returns-then-is_some
returns-then-is_some c =
    let entry = c.index-entries-place.result in
    let key : string_bytes c.in_ok-id.id ≡ entry.id = c.in_ok-id.ensures.ok ∙ c.as_str.ensures in
    let found = c.in_ok-before.ensures.old ∙ c.loop-place.invariant.placed
    (string_bytes c.in_ok-id.id) in
    let place = there c.in_ok-before.before c.if-is_some.ensures in
    stands_twice c.args.entries.now c.loop-place.place entry place.0 c.loop-place-test.true
    c.index-entries-place.is (place.1 ∙ rw key at found)

pub loop-place-preserved : goal.loop-place-preserved
loop-place-preserved c =
    let i = c.loop-place.place in
    let entry = c.index-entries-place.result in
    let id = string_bytes c.in_ok-id.id in
    let old = get_by_text c.loop-place.places in
    let key : id ≡ entry.id = c.in_ok-id.ensures.ok ∙ c.as_str.ensures in
    let none : None ≡ old id = not_there c.in_ok-before.before c.if-is_some.ensures
    ∙ c.in_ok-before.ensures.old in
    let none_before = none ∙ c.loop-place.invariant.placed id in
    record {
      placed = places_more has_id c.args.entries.now i entry old (get_by_text c.insert.new.self)
          c.loop-place-test.true c.index-entries-place.is c.loop-place.invariant.placed
          (λ q. rw key at (btree_map_updates_text id c.loop-place.places c.insert.new.self
          (Some i) c.in_ok-before.ensures.updates q ∙ placed_new id i old none q));
      distinct = distinct_more c.args.entries.now i entry c.loop-place-test.true
          c.index-entries-place.is c.loop-place.invariant.distinct (rw key at none_before);
    }
