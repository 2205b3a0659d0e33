use Rattle.it_docs.proofs.Same.{statement_same}
use Rattle.it_docs.proofs.laws.one_statement.Goals as goal

pub returns : goal.returns
returns c = statement_same
