use Rattle.it_chain.proofs.AlikePanels.{alike_panel_chains}
use Rattle.it_chain.proofs.laws.alike_panel_chains.Goals as goal

pub returns : goal.returns
returns c = alike_panel_chains
