use Rattle.it_chain.proofs.Excludes.{chain_one}
use Rattle.it_chain.proofs.laws.chain_is_one.Goals as goal

pub returns : goal.returns
returns c = chain_one
