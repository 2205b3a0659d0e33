use Rattle.std.proofs.Common.{arith}
use Rattle.it_trust_root.proofs.Fractions.{number_found}
use Rattle.it_trust_root.proofs.time.nanoseconds_of.Goals as goal

pub returns : goal.returns
returns c = number_found c.args.digits.now c.number_of.result (omega arith) (omega arith)
    (rw c.with_zeros.ensures at c.number_of.ensures)
