use Rattle.it_identity.proofs.Same.{described_same}
use Rattle.it_identity.proofs.laws.one_identity.Goals as goal

pub returns : goal.returns
returns c = described_same
