use Rattle.it_chain.proofs.Decided.{the_lower, the_lower-right}
use Rattle.it_chain.proofs.laws.some_answers_right.Goals as goal

pub returns : goal.returns
returns c = (the_lower, the_lower-right)
