use Rattle.it_verify.proofs.OneRefusal.{verdict_one}
use Rattle.it_verify.proofs.laws.verdict_is_one.Goals as goal

pub returns : goal.returns
returns c = verdict_one
