use Rattle.it_certificate.proofs.OneLeaf.{one_leaf}
use Rattle.it_certificate.proofs.laws.one_leaf.Goals as goal

pub returns : goal.returns
returns c = one_leaf
