use Rattle.it_docs.proofs.Same.{link_same}
use Rattle.it_docs.proofs.laws.one_link.Goals as goal

pub returns : goal.returns
returns c = link_same
