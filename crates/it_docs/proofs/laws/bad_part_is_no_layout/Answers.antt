use Rattle.it_docs.proofs.Refusals.{no_layout}
use Rattle.it_docs.proofs.laws.bad_part_is_no_layout.Goals as goal

pub returns : goal.returns
returns c = no_layout
