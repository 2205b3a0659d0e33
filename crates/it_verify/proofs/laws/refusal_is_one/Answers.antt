use Rattle.it_verify.proofs.OneRefusal.{refusal_one}
use Rattle.it_verify.proofs.laws.refusal_is_one.Goals as goal

pub returns : goal.returns
returns c = refusal_one
