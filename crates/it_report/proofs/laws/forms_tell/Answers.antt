use Rattle.it_report.proofs.Forms.{forms_tell as proof}
use Rattle.it_report.proofs.laws.forms_tell.Goals as goal

pub returns : goal.returns
returns c = proof
