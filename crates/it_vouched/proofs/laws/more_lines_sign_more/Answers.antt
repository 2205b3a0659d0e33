use Rattle.it_vouched.proofs.Signing.{more_valid}
use Rattle.it_vouched.proofs.laws.more_lines_sign_more.Goals as goal

pub returns : goal.returns
returns c = more_valid
