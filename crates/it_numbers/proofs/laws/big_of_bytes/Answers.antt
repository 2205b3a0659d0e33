use Rattle.it_numbers.proofs.Big.{big-bytes}
use Rattle.it_numbers.proofs.laws.big_of_bytes.Goals as goal

pub returns : goal.returns
returns c = big-bytes
