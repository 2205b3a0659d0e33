use Rattle.it_chain.proofs.Deciding.{answer_right}
use Rattle.it_chain.proofs.laws.answer_is_right.Goals as goal

pub returns : goal.returns
returns c = answer_right
