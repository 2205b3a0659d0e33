use Rattle.it_strict.proofs.OneKey.{nonces_are_of_one_key}
use Rattle.it_strict.proofs.laws.nonces_are_of_one_key.Goals as goal

pub returns : goal.returns
returns c = nonces_are_of_one_key
