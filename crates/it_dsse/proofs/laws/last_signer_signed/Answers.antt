use Rattle.it_dsse.proofs.AddedSignatures.{last_signed}
use Rattle.it_dsse.proofs.laws.last_signer_signed.Goals as goal

pub returns : goal.returns
returns c = last_signed
