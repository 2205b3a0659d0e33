use Rattle.it_merkle.proofs.Paths.{some_path}
use Rattle.it_merkle.proofs.laws.some_path.Goals as goal

pub returns : goal.returns
returns c = some_path
