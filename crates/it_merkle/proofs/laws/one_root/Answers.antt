use Rattle.std.proofs.Common.{refl}
use Rattle.it_merkle.proofs.Roots.{some_root, same_root}
use Rattle.it_merkle.proofs.laws.one_root.Goals as goal

pub returns : goal.returns
returns c = λ entries.
    let root = some_root entries in
    (root.0, root.1, λ other is. same_root root.1 is refl)
