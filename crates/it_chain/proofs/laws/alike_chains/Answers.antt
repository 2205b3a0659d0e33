use Rattle.it_chain.proofs.Alikes.{alike_chains}
use Rattle.it_chain.proofs.laws.alike_chains.Goals as goal

pub returns : goal.returns
returns c = alike_chains
