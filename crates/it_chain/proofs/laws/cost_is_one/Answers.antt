use Rattle.it_chain.proofs.OneCost.{one_cost}
use Rattle.it_chain.proofs.laws.cost_is_one.Goals as goal

pub returns : goal.returns
returns c = one_cost
