use Rattle.std.proofs.Common.{take}
use Rattle.std.proofs.lemmas.List.{take_more}
use Rattle.it_chain.proofs.Candidates.{lent_kept}
use Rattle.it_chain.proofs.candidate.Candidates.at.Goals as goal

pub loop-place-preserved : goal.loop-place-preserved
loop-place-preserved c =
    let so_far = take c.loop-place.place-index c.args.places.now in
    rw (
      c.in_ok-push_some.ensures,
      take_more c.args.places.now c.loop-place.place-index 0
          c.loop-place-test.true,
    )
    (lent_kept c.args.files.now so_far _ c.loop-place.envelopes.items
    c.loop-place.invariant c.candidate_at.result c.candidate_at.ensures)
