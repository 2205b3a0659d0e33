use Rattle.it_chain.proofs.Withheld.{withheld}
use Rattle.it_chain.proofs.laws.withheld_chains.Goals as goal

pub returns : goal.returns
returns c = withheld
