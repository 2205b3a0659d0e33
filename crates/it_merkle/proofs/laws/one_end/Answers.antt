use Rattle.it_merkle.proofs.Ways.{one_end}
use Rattle.it_merkle.proofs.laws.one_end.Goals as goal

pub returns : goal.returns
returns c = λ hash index size path root other way way'. one_end way other way'
