use Rattle.it_vouches.proofs.Vouching.{vouches_same}
use Rattle.it_vouches.proofs.laws.vouches_once.Goals as goal

pub returns : goal.returns
returns c = vouches_same
