use Rattle.it_der.proofs.Reading.{one_first}
use Rattle.it_der.proofs.laws.one_first.Goals as goal

pub returns : goal.returns
returns c = one_first
