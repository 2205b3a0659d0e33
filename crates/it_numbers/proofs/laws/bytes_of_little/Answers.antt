use Rattle.it_numbers.proofs.Small.{each_small}
use Rattle.it_numbers.proofs.Little.{bytes-little}
use Rattle.it_numbers.proofs.laws.bytes_of_little.Goals as goal

pub returns : goal.returns
returns c = λ bytes all. bytes-little bytes (each_small bytes all)
