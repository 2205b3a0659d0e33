use Rattle.it_identity.proofs.Names.{numbers_tell}
use Rattle.it_identity.proofs.laws.numbers_tell_identities.Goals as goal

pub returns : goal.returns
returns c = numbers_tell
