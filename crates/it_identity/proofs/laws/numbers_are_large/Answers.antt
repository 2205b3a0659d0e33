use Rattle.it_identity.proofs.Names.{numbers_large}
use Rattle.it_identity.proofs.laws.numbers_are_large.Goals as goal

pub returns : goal.returns
returns c = numbers_large
