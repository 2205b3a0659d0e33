use Rattle.it_vouched.proofs.Described.{described}
use Rattle.it_vouched.proofs.laws.identity_is_described.Goals as goal

pub returns : goal.returns
returns c = described
