use Rattle.it_public_keys.proofs.Described.{decoded_is_described}
use Rattle.it_public_keys.proofs.number_laws.decoded_is_described.Goals as goal

pub returns : goal.returns
returns c = decoded_is_described
