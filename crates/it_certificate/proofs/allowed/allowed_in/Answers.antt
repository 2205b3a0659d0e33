use Rattle.it_certificate.proofs.allowed.allowed_in.Goals as goal

pub returns-in_default : goal.returns-in_default
returns-in_default c = rw c.in_default.is at c.in_ok-all.ensures
