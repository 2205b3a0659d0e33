use Rattle.it_trust_root.proofs.Same.{one_root}
use Rattle.it_trust_root.proofs.laws.one_root.Goals as goal

pub returns : goal.returns
returns c = one_root
