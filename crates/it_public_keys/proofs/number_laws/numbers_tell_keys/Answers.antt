use Rattle.it_public_keys.proofs.NamedKeys.{numbers_tell_keys}
use Rattle.it_public_keys.proofs.number_laws.numbers_tell_keys.Goals as goal

pub returns : goal.returns
returns c = numbers_tell_keys
