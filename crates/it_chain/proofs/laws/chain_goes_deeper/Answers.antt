use Rattle.it_chain.proofs.Deeper.{chain_deeper}
use Rattle.it_chain.proofs.laws.chain_goes_deeper.Goals as goal

pub returns : goal.returns
returns c = chain_deeper
