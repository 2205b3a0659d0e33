use Rattle.it_verify.proofs.Withholding.{withheld_inputs}
use Rattle.it_verify.proofs.laws.withheld_inputs.Goals as goal

pub returns : goal.returns
returns c = withheld_inputs
