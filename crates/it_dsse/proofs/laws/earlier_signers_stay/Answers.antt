use Rattle.it_dsse.proofs.AddedSignatures.{earlier_stay}
use Rattle.it_dsse.proofs.laws.earlier_signers_stay.Goals as goal

pub returns : goal.returns
returns c = earlier_stay
