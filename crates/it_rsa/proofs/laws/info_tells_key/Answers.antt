use Rattle.it_rsa.proofs.Keys.{same_key}
use Rattle.it_rsa.proofs.laws.info_tells_key.Goals as goal

pub returns : goal.returns
returns c = same_key
