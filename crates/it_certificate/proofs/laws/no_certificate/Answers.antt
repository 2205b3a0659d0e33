use Rattle.it_certificate.proofs.Short.{no_certificate}
use Rattle.it_certificate.proofs.laws.no_certificate.Goals as goal

pub returns : goal.returns
returns c = no_certificate
