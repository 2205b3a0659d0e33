use Rattle.it_trust_root.proofs.RootParts.{no_root}
use Rattle.it_trust_root.proofs.laws.bad_part_is_no_root.Goals as goal

pub returns : goal.returns
returns c = no_root
