use Rattle.it_certificate.proofs.OneIssuing.{one_issuing_shortfall}
use Rattle.it_certificate.proofs.laws.one_issuing_shortfall.Goals as goal

pub returns : goal.returns
returns c = one_issuing_shortfall
