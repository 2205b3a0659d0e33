use Rattle.it_certificate.proofs.Short.{no_certificate}
use Rattle.it_certificate.proofs.certificate.read_certificate.Goals as goal

pub returns-in-Err : goal.returns-in-Err
returns-in-Err c =
    no_certificate c.args.bytes.now c.in-Err.field-0 (rw c.in-Err.is at c.in_ok-certificate.ensures)
