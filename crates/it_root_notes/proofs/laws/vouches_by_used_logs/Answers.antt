use Rattle.it_root_notes.proofs.Used.{vouches_by_used_logs}
use Rattle.it_root_notes.proofs.laws.vouches_by_used_logs.Goals as goal

pub returns : goal.returns
returns c = vouches_by_used_logs
