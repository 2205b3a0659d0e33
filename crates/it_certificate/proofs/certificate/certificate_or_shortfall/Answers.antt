use Rattle.it_certificate.proofs.Short.{whole_read_if_ok}
use Rattle.it_certificate.proofs.certificate.certificate_or_shortfall.Goals as goal

pub returns-in-Some : goal.returns-in-Some
returns-in-Some c =
    let read = rw c.in-Some.is at c.in_ok-parts.ensures in
    whole_read_if_ok c.args.bytes.now c.in-Some.parts c.certificate_of.result read.0 read.1 c.certificate_of.ensures

pub returns-in-None : goal.returns-in-None
returns-in-None c = rw c.in-None.is at c.in_ok-parts.ensures
