use Rattle.it_vouched.proofs.Signing.{valid_means}
use Rattle.it_vouched.proofs.laws.valid_means_vouched.Goals as goal

pub returns : goal.returns
returns c = valid_means
