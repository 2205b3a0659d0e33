-- The parts that are signed, as a function hands them out. Nothing here is trusted.
use Rattle.it_certificate.specs.Parts.{Parts}
use Rattle.it_certificate.specs.declared.signed.Signed.{Signed}

abbrev pub signed_parts : Signed → Parts
signed_parts s = record {
  serial = s.serial.now;
  algorithm = s.algorithm.now;
  issuer = s.issuer.now;
  validity = s.validity.now;
  subject = s.subject.now;
  key = s.key.now;
  extensions = s.extensions.now;
}
