use Rattle.it_file_evidence.proofs.Signing.{signer_has_signed}
use Rattle.it_file_evidence.proofs.laws.signer_has_signed.Goals as goal

pub returns : goal.returns
returns c = signer_has_signed
