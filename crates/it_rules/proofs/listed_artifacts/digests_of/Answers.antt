use Rattle.std.proofs.Common.{◌∙◌, List, ℕ, map, ap, sym}
use Rattle.it_digest.specs.declared.compare.DigestSet.{DigestSet}
use Rattle.it_rules.proofs.LentDigests.{sets-path_entries}
use Rattle.it_rules.proofs.listed_artifacts.digests_of.Goals as goal

pub loop-digests-init : goal.loop-digests-init
loop-digests-init c =
    rw (c.new-found.ensures.items, c.into_iter-digests-iterator.ensures.into_iter_gives)
    (sym (sets-path_entries c.iter-digests-items.result)
    ∙ ap (map (λ (e : List ℕ × DigestSet). e.1)) c.iter-digests-items.ensures)
