use Rattle.it_verify.proofs.SomeCost.{inputs_cost}
use Rattle.it_verify.proofs.laws.inputs_have_cost.Goals as goal

pub returns : goal.returns
returns c = inputs_cost
