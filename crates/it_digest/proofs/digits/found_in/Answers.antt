use Rattle.std.proofs.Common.{arith}
use Rattle.it_digest.proofs.NumbersFound.{number_at}
use Rattle.it_digest.proofs.digits.found_in.Goals as goal

pub returns : goal.returns
returns c = number_at c.args.numbers.now c.args.digit c.requires (omega arith)
