use Rattle.it_digest.proofs.ArtifactsLemmas.{digest_set_eq-Decides}
use Rattle.it_rule_notes.proofs.difference.is_same.Goals as goal

pub returns : goal.returns
returns c = rw c.eq.ensures (digest_set_eq-Decides c.args.one.now c.args.other.now)
