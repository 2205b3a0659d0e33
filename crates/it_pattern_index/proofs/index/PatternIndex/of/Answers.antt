use Rattle.std.proofs.Common.{◌≡◌, ◌∙◌, ◌≤◌, arith, Bor, List, Some, ap, length, option_map, refl, ℕ}
use Rattle.std.specs.List.{slice_get}
use Rattle.std.proofs.lemmas.List.{length-map}
use Rattle.std.proofs.lemmas.Option.{slice_get-map, slice_get_read}
use Rattle.it_pattern_index.specs.inside.Listed.{texts_of}
use Rattle.it_pattern_index.proofs.Listing.{listed_all, listed_more}
use Rattle.it_pattern_index.proofs.index.PatternIndex.of.Goals as goal

pub loop-place-preserved : goal.loop-place-preserved
loop-place-preserved c =
    let items = c.as_slice-pattern-items.result.now in
    let i = c.loop-place.place in
    let pattern = c.pattern-item.result in
    let here : slice_get (texts_of items) i ≡ Some pattern.now =
    slice_get-map (λ (p : Bor (List ℕ)). p.now) items i ∙ ap (option_map (λ (p : Bor (List ℕ)). p.now))
    (slice_get_read items (length items) i pattern refl c.loop-place-test.true c.pattern-item.is) in
    listed_more (texts_of items) i pattern.now c.loop-place.fronts c.list.new.self here
    c.loop-place.invariant c.in_ok-list.ensures.kept
    c.in_ok-list.ensures.listed

pub invariant_of-result : goal.invariant_of-result
invariant_of-result c =
    let items = c.as_slice-pattern-items.result.now in
    let now = λ (p : Bor (List ℕ)). p.now in
    let past : length (texts_of items) ≤ c.loop-place.place =
    omega (arith, length-map items now, c.loop-place-test.false) in
    rw (← c.as_slice-pattern-items.ensures.value) (listed_all (texts_of items) c.loop-place.place
    c.loop-place.fronts past c.loop-place.invariant)
