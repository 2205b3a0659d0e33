use Rattle.it_verify.proofs.Refused.{made_not_refused}
use Rattle.it_verify.proofs.laws.made_not_refused.Goals as goal

pub returns : goal.returns
returns c = made_not_refused
