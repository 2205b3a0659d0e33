use Rattle.it_chain.proofs.SomeCost.{some_cost}
use Rattle.it_chain.proofs.laws.has_cost.Goals as goal

pub returns : goal.returns
returns c = some_cost
