use Rattle.it_root_notes.proofs.Once.{misses_once}
use Rattle.it_root_notes.proofs.laws.misses_once.Goals as goal

pub returns : goal.returns
returns c = misses_once
