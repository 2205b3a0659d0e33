use Rattle.std.proofs.Common.{◌≡◌, ◌∙◌, ap, cond, Some, None, sym}
use Rattle.std.specs.BTreeMap.{get}
use Rattle.std.specs.Cmp.Lexicographic.{slice_cmp}
use Rattle.std.specs.Ordering.{nat_cmp}
use Rattle.std.proofs.lemmas.Map.Text.{is_eq-slice_cmp}
use Rattle.it_dsse.specs.Hmac.{block_of}
use Rattle.it_dsse.specs.Ring.{has_key}
use Rattle.it_dsse.proofs.Places.{not_there, placed_before, placed_new, places_more, there}
use Rattle.it_dsse.proofs.ring_index.places_of_keys.Goals as goal
use Rattle.it_dsse.proofs.ring_index.places_of_keys.Goals.{then-not-contains_key+in_ok-insert}
use Rattle.it_dsse.proofs.ring_index.places_of_keys.Goals.{else-not-contains_key}

pub loop-place-preserved : goal.loop-place-preserved
loop-place-preserved c =
    let i = c.loop-place.place in
    let entry = c.index-entries-place.result in
    let old = get (slice_cmp nat_cmp) c.loop-place.places in
    let key : c.block-key.result ≡ block_of entry.secret = c.block-key.ensures
    ∙ ap block_of c.as_slice.ensures in
    elim c.if-not-contains_key.branch [
      | then-not-contains_key+in_ok-insert w ↦
          let none : None ≡ old c.block-key.result =
          not_there (old c.block-key.result) (sym w.if-not-contains_key.true
          ∙ c.contains_key.ensures) in
          places_more has_key c.args.entries.now i entry old
          (get (slice_cmp nat_cmp) c.if-not-contains_key.places)
          c.loop-place-test.true c.index-entries-place.is c.loop-place.invariant
          (λ q. rw (w.places-is, ← key) (w.in_ok-insert.ensures.updates.0 q
          ∙ ap (λ b. cond b (Some i) (old q)) (is_eq-slice_cmp c.block-key.result q)
          ∙ placed_new c.block-key.result i old none q))
      | else-not-contains_key w ↦
          let place = there (old c.block-key.result) (sym w.if-not-contains_key.false
          ∙ c.contains_key.ensures) in
          places_more has_key c.args.entries.now i entry old
          (get (slice_cmp nat_cmp) c.if-not-contains_key.places)
          c.loop-place-test.true c.index-entries-place.is c.loop-place.invariant
          (λ q. rw (w.places-is, ← key) (placed_before c.block-key.result i place.0 old place.1 q))
    ]
