use Rattle.it_verify.proofs.AlikePanels.{alike_panels}
use Rattle.it_verify.proofs.laws.alike_panels.Goals as goal

pub returns : goal.returns
returns c = alike_panels
