-- Notes that are not written.
use Rattle.std.proofs.Common.{ℕ, List, Option, Some, None, append-nil, arith, sym}
use Rattle.it_base.specs.Writing.{AppendsBeginning}

-- where nothing was written, no byte of any text was
pub nothing_more : (known : Option (List ℕ)) (bytes : List ℕ) → AppendsBeginning known known bytes
nothing_more None bytes = (0, omega arith, tt)
nothing_more (Some xs) bytes = (0, omega arith, sym (append-nil xs))
