use Rattle.it_numbers.proofs.Small.{each_small}
use Rattle.it_numbers.proofs.Big.{bytes-big}
use Rattle.it_numbers.proofs.laws.bytes_of_big.Goals as goal

pub returns : goal.returns
returns c = λ bytes all. bytes-big bytes (each_small bytes all)
