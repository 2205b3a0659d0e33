use Rattle.it_docs.proofs.Same.{layout_same}
use Rattle.it_docs.proofs.laws.one_layout.Goals as goal

pub returns : goal.returns
returns c = layout_same
