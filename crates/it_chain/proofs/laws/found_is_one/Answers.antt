use Rattle.it_chain.proofs.Numbers.{found_one}
use Rattle.it_chain.proofs.laws.found_is_one.Goals as goal

pub returns : goal.returns
returns c = found_one
