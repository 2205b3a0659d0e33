-- A certificate as a log saw it, which signed it before it had the log's timestamp (RFC 6962,
-- section 3.2: the TBSCertificate of a precertificate).
use Rattle.std.specs.Prelude.{◌≡◌, ℕ, Bool, not, List, filter, flat_map}
use Rattle.std.specs.Str.{bytes_eq}
use Rattle.it_der.specs.Element.{bytes_of, wrap}
use Rattle.it_certificate.specs.Certificate.{CertificateOf, Facts, facts_of}
use Rattle.it_certificate.specs.Extension.{Stated, extension_elements}
use Rattle.it_certificate.specs.Identifiers.{timestamps}
use Rattle.it_certificate.specs.Parts.{Parts, parts_of, signed_bytes}
use Rattle.it_certificate.specs.declared.certificate.Certificate.{Certificate}

-- an extension as it stands in a certificate, and the part of a certificate that has these
abbrev pub extension_bytes : Stated → List ℕ
extension_bytes e = wrap 48 (bytes_of (extension_elements e.critical e.id e.value))

abbrev pub extensions_part : List Stated → List ℕ
extensions_part extensions = wrap 48 (flat_map extension_bytes extensions)

-- any extension but the timestamps
abbrev pub is_other : Stated → Bool
is_other e = not (bytes_eq e.id timestamps)

-- the parts of a certificate with this one for its own extensions
abbrev pub with_extensions : Facts → List ℕ → Parts
with_extensions f extensions = record {
  serial = f.parts.serial;
  algorithm = f.parts.algorithm;
  issuer = f.parts.issuer;
  validity = f.parts.validity;
  subject = f.parts.subject;
  key = f.parts.key;
  extensions = extensions;
}

-- what the signature of the certificate would be of, had it no timestamps; all lengths around them
-- are written anew
abbrev pub bare_bytes : Facts → List ℕ
bare_bytes f = signed_bytes (with_extensions f (extensions_part (filter is_other f.extensions)))

-- the certificate is as it was read from some bytes
pub record WasRead (c : Certificate) : Type 0 where
  pub bytes : List ℕ
  pub certificate : CertificateOf bytes (facts_of c)
  pub signed : c.parts.signed.now ≡ signed_bytes (parts_of c.parts)
