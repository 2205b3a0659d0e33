use Rattle.it_chain.proofs.SomeCost.{some_fewest}
use Rattle.it_chain.proofs.laws.has_fewest.Goals as goal

pub returns : goal.returns
returns c = some_fewest
