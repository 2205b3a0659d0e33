use Rattle.it_docs.proofs.Moments.{same_moment}
use Rattle.it_docs.proofs.laws.one_moment.Goals as goal

pub returns : goal.returns
returns c = same_moment
