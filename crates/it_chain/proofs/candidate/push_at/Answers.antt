use Rattle.std.proofs.Common.{◌≡◌, ◌∙◌, ◌+◌, ap, append_assoc, take, ◌++◌, [], sym, get_or}
use Rattle.std.specs.List.{cons_option}
use Rattle.it_chain.specs.inside.Places.{items_at}
use Rattle.it_chain.proofs.PlaceLists.{found_at, items_more}
use Rattle.it_chain.proofs.candidate.push_at.Goals as goal

pub loop-place-preserved : goal.loop-place-preserved
loop-place-preserved c =
    let envelopes = c.args.envelopes.now in
    let places = c.args.places.now in
    let i = c.loop-place.place-index in
    let old = c.args.found.now.items in
    let before = items_at envelopes (take i places) in
    let next = c.copied.ensures ∙ found_at envelopes (get_or places i 0) _ c.get.result
    c.get.ensures.lookup.1 c.get.ensures.lookup.3 in
    let more : old ++ (before ++ cons_option c.copied.result [])
    ≡ old ++ items_at envelopes (take (i + 1) places) =
    ap (λ o. old ++ (before ++ cons_option o [])) next
    ∙ ap (λ found. old ++ found) (sym (items_more envelopes places i c.loop-place-test.true)) in
    rw (
      c.in_ok-push_some.ensures,
      c.loop-place.invariant,
      append_assoc old before (cons_option c.copied.result []),
    ) more
