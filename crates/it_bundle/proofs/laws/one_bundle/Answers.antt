use Rattle.it_bundle.proofs.Same.{bundle_same}
use Rattle.it_bundle.proofs.laws.one_bundle.Goals as goal

pub returns : goal.returns
returns c = bundle_same
