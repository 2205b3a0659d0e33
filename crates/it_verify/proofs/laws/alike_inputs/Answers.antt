use Rattle.it_verify.proofs.AlikeVerdicts.{alike_inputs}
use Rattle.it_verify.proofs.laws.alike_inputs.Goals as goal

pub returns : goal.returns
returns c = alike_inputs
