use Rattle.it_certificate.proofs.OneShortfall.{one_shortfall}
use Rattle.it_certificate.proofs.laws.one_shortfall.Goals as goal

pub returns : goal.returns
returns c = one_shortfall
