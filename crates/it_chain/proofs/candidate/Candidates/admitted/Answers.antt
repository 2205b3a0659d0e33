use Rattle.std.proofs.Common.{◌∙◌, ap, map, ◌++◌}
use Rattle.it_chain.specs.inside.Places.{items_at, places_under}
use Rattle.it_chain.proofs.Candidates.{shown}
use Rattle.it_chain.proofs.Hinted.{admitted_are}
use Rattle.it_chain.proofs.candidate.Candidates.admitted.Goals as goal

pub returns : goal.returns
returns c =
    let envelopes = c.self.inside.envelopes.items in
    let hints = c.self.inside.hints in
    let id = c.args.id.now in
    let under = items_at envelopes (places_under hints.named id) in
    let first = rw (
      c.new-found.ensures.items,
      c.as_slice-envelopes.ensures.value,
      c.as_slice.ensures.value,
    ) at c.in_ok-push_at.ensures in
    let second = rw (c.as_slice-envelopes.ensures.value, c.under.ensures) at
    c.in_ok-push_at-2.ensures in
    rw (← c.self.view_is)
    (ap (map shown) (second ∙ ap (λ found. found ++ under) first)
    ∙ admitted_are envelopes hints id c.self.invariant)
