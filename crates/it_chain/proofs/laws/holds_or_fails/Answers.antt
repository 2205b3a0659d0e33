use Rattle.it_chain.proofs.Deciding.{holds_or_fails}
use Rattle.it_chain.proofs.laws.holds_or_fails.Goals as goal

pub returns : goal.returns
returns c = holds_or_fails
