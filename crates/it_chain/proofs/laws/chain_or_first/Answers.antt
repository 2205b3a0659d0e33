use Rattle.it_chain.proofs.Excludes.{chain_excludes}
use Rattle.it_chain.proofs.laws.chain_or_first.Goals as goal

pub returns : goal.returns
returns c = chain_excludes
