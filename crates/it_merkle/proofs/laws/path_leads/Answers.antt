use Rattle.it_merkle.proofs.Paths.{path_leads}
use Rattle.it_merkle.proofs.laws.path_leads.Goals as goal

pub returns : goal.returns
returns c = λ entries path index entry root at is tree. path_leads is entry root at tree
