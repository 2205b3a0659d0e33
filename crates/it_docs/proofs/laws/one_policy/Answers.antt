use Rattle.it_docs.proofs.Same.{policy_same}
use Rattle.it_docs.proofs.laws.one_policy.Goals as goal

pub returns : goal.returns
returns c = policy_same
