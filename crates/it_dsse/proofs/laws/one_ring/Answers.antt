use Rattle.it_dsse.proofs.Rings.{same_entries}
use Rattle.it_dsse.proofs.laws.one_ring.Goals as goal

pub returns : goal.returns
returns c = λ bytes x y h k. same_entries bytes x y h.entries k.entries
