use Rattle.it_vouched.proofs.TestedIdentity.{describes_identity_in as proof}
use Rattle.it_vouched.proofs.laws.describes_identity_in.Goals as goal

pub returns : goal.returns
returns c = proof
