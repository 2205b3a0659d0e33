use Rattle.it_certificate.proofs.certificate.certificate_of.Goals as goal

pub returns-in_default-2 : goal.returns-in_default-2
returns-in_default-2 c = (
  (c.in-Some.algorithm, c.in-Some.ensures),
  rw c.in_default-2.is at c.in_ok-validity.ensures,
)

pub returns-in_default-key_in : goal.returns-in_default-key_in
returns-in_default-key_in c = (
  (c.in-Some.algorithm, c.in-Some.ensures),
  (c.in-Some-2.validity, rw c.in-Some-2.is at c.in_ok-validity.ensures),
  c.in_default-key_in.ensures,
)

pub returns-in-Err : goal.returns-in-Err
returns-in-Err c = (
  (c.in-Some.algorithm, c.in-Some.ensures),
  (c.in-Some-2.validity, rw c.in-Some-2.is at c.in_ok-validity.ensures),
  (c.in-Some-key_in.key.curve, c.in-Some-key_in.key.coordinates.now, c.in-Some-key_in.ensures),
  rw c.in-Err.is at c.in_ok-allowed.ensures,
)
