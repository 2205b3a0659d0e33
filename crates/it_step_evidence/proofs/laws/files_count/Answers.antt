use Rattle.it_step_evidence.proofs.Counting.{files_count}
use Rattle.it_step_evidence.proofs.laws.files_count.Goals as goal

pub returns : goal.returns
returns c = files_count
