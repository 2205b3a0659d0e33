use Rattle.it_verify.proofs.MadeOrRefused.{made_or_refused}
use Rattle.it_verify.proofs.laws.made_or_refused.Goals as goal

pub returns : goal.returns
returns c = made_or_refused
