use Rattle.it_p384.proofs.Infos.{same_key}
use Rattle.it_p384.proofs.laws.info_tells_key.Goals as goal

pub returns : goal.returns
returns c = same_key
