use Rattle.it_der.proofs.Reading.{one_reading}
use Rattle.it_der.proofs.laws.one_reading.Goals as goal

pub returns : goal.returns
returns c = one_reading
