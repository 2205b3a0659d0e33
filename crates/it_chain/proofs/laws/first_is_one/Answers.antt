use Rattle.it_chain.proofs.OneFirst.{first_one}
use Rattle.it_chain.proofs.laws.first_is_one.Goals as goal

pub returns : goal.returns
returns c = first_one
