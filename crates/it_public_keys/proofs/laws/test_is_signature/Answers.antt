use Rattle.it_public_keys.proofs.Testing.{test_is_signature}
use Rattle.it_public_keys.proofs.laws.test_is_signature.Goals as goal

pub returns : goal.returns
returns c = test_is_signature
