use Rattle.it_unwrapped.proofs.Reading.{reads_the_same}
use Rattle.it_unwrapped.proofs.laws.unwrapped_reads_the_same.Goals as goal

pub returns : goal.returns
returns c = reads_the_same
