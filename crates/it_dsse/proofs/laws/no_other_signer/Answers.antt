use Rattle.it_dsse.proofs.AddedSignatures.{no_other}
use Rattle.it_dsse.proofs.laws.no_other_signer.Goals as goal

pub returns : goal.returns
returns c = no_other
