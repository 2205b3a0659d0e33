use Rattle.it_certificate.proofs.OneWay.{one_certificate}
use Rattle.it_certificate.proofs.laws.one_certificate.Goals as goal

pub returns : goal.returns
returns c = one_certificate
