use Rattle.it_step_notes.proofs.Telling.{tells}
use Rattle.it_step_notes.proofs.laws.findings_tell.Goals as goal

pub returns : goal.returns
returns c = tells
