use Rattle.std.proofs.Common.{arith}
use Rattle.it_identity.proofs.identity.are_bytes.Goals as goal

pub returns : goal.returns
returns c = λ k. let fits = c.type_inv.bytes k in omega arith
