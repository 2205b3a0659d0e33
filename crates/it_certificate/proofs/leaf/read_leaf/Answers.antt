use Rattle.it_certificate.specs.Certificate.{facts_of}
use Rattle.it_certificate.proofs.Leaving.{missed_certificate, no_leaf}
use Rattle.it_certificate.proofs.leaf.read_leaf.Goals as goal

pub returns-in-Err : goal.returns-in-Err
returns-in-Err c =
    missed_certificate c.args.bytes.now c.in-Err.missed (rw c.in-Err.is at c.in_ok-certificate.ensures)

pub returns : goal.returns
returns c =
    let read = rw c.in-Ok.is at c.in_ok-certificate.ensures in
    no_leaf c.args.bytes.now (facts_of c.in-Ok.certificate) c.in-Err-2.missed read.0 (rw c.in-Err-2.is at c.in_ok-identity.ensures)
