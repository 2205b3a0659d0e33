use Rattle.it_certificate.proofs.Naming.{both_issuers}
use Rattle.it_certificate.proofs.issuer.issuer_of.Goals as goal

pub returns-in-Some-old : goal.returns-in-Some-old
returns-in-Some-old c = rw (c.in-Some-old.is, c.in-Some.is)
    (both_issuers c.in-Some-old.old.now c.in-Some.new.now c.in_ok-text.text.now c.same_text.result c.in_ok-text.ensures c.same_text.ensures)
