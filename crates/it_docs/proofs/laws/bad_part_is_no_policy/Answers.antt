use Rattle.it_docs.proofs.Refusals.{no_policy}
use Rattle.it_docs.proofs.laws.bad_part_is_no_policy.Goals as goal

pub returns : goal.returns
returns c = no_policy
