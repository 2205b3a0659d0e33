use Rattle.it_numbers.proofs.Little.{little-bytes}
use Rattle.it_numbers.proofs.laws.little_of_bytes.Goals as goal

pub returns : goal.returns
returns c = little-bytes
