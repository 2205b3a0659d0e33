use Rattle.it_verify.proofs.OneCost.{inputs_one_cost}
use Rattle.it_verify.proofs.laws.inputs_have_one_cost.Goals as goal

pub returns : goal.returns
returns c = inputs_one_cost
