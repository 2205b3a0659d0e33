use Rattle.std.proofs.Common.{refl}
use Rattle.it_merkle.proofs.Collisions.{found}
use Rattle.it_merkle.proofs.laws.leads_from_entry.Goals as goal

pub returns : goal.returns
returns c = λ entries path index entry root tree way. found way tree entry refl refl refl
