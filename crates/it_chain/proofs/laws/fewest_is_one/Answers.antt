use Rattle.it_chain.proofs.OneCost.{one_fewest}
use Rattle.it_chain.proofs.laws.fewest_is_one.Goals as goal

pub returns : goal.returns
returns c = one_fewest
