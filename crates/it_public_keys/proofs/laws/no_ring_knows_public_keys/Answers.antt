use Rattle.it_public_keys.proofs.Schemes.{no_ring_knows}
use Rattle.it_public_keys.proofs.laws.no_ring_knows_public_keys.Goals as goal

pub returns : goal.returns
returns c = no_ring_knows
