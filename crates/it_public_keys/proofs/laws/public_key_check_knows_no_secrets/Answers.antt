use Rattle.it_public_keys.proofs.Schemes.{no_secret_known}
use Rattle.it_public_keys.proofs.laws.public_key_check_knows_no_secrets.Goals as goal

pub returns : goal.returns
returns c = no_secret_known
