use Rattle.it_verify.proofs.MadeOrRefused.{made_or_first}
use Rattle.it_verify.proofs.laws.made_or_first.Goals as goal

pub returns : goal.returns
returns c = made_or_first
