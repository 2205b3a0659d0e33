-- Certificates (RFC 5280, section 4.1), by the elements that they are. What the elements hold is
-- not looked at, but for the version.
use Rattle.std.specs.Prelude.{◌≢◌, ℕ, List, [], ◌∷◌}
use Rattle.it_der.specs.Element.{IsElement, AreElements, Tagged, bytes_of, wrap}
use Rattle.it_certificate.specs.declared.parts.CertificateParts.{CertificateParts}

-- elements, by their tags and their contents
abbrev pub with_tags : List ℕ → List (List ℕ) → List Tagged
with_tags [] contents = []
with_tags (tag ∷ tags) [] = []
with_tags (tag ∷ tags) (content ∷ contents) =
    record { tag = tag; content = content } ∷ with_tags tags contents

-- the contents of the parts of a certificate
pub record Parts : Type 0 where
  pub serial : List ℕ
  pub algorithm : List ℕ
  pub issuer : List ℕ
  pub validity : List ℕ
  pub subject : List ℕ
  pub key : List ℕ
  pub extensions : List ℕ

-- the tags of the parts of TBSCertificate: the version is there and is 3 (the number 2), and so are
-- the extensions; the unique identifiers are not (this profile's choices)
abbrev pub signed_tags : List ℕ
signed_tags = 160 ∷ 2 ∷ 48 ∷ 48 ∷ 48 ∷ 48 ∷ 48 ∷ 163 ∷ []

abbrev pub signed_elements : Parts → List Tagged
signed_elements p = with_tags signed_tags ((2 ∷ 1 ∷ 2 ∷ []) ∷ p.serial ∷ p.algorithm ∷ p.issuer
    ∷ p.validity ∷ p.subject ∷ p.key ∷ p.extensions ∷ [])

-- the bytes that the signature is of: TBSCertificate, its tag and its length with it (RFC 5280,
-- section 4.1.1.3)
abbrev pub signed_bytes : Parts → List ℕ
signed_bytes p = wrap 48 (bytes_of (signed_elements p))

-- a serial number has some bytes
pub record AreSigned (content : List ℕ) (p : Parts) : Type 0 where
  pub serial_some : p.serial ≢ []
  pub elements : AreElements content (signed_elements p)

-- what is signed, the algorithm, and a BIT STRING of whole bytes, the signature
abbrev pub outer_tags : List ℕ
outer_tags = 48 ∷ 48 ∷ 3 ∷ []

abbrev pub outer_elements : List ℕ → List ℕ → List ℕ → List Tagged
outer_elements signed algorithm signature =
    with_tags outer_tags (signed ∷ algorithm ∷ (0 ∷ signature) ∷ [])

-- the bytes are a certificate of these parts and this signature. The algorithm stands in it twice
-- (RFC 5280, section 4.1.1.2)
pub record IsCertificate (bytes : List ℕ) (p : Parts) (signature : List ℕ) : Type 0 where
  pub content : List ℕ
  pub signed : List ℕ
  pub whole : IsElement bytes 48 content
  pub outer : AreElements content (outer_elements signed p.algorithm signature)
  pub inner : AreSigned signed p

-- the parts of a certificate without where they lie in memory
abbrev pub parts_of : CertificateParts → Parts
parts_of c = record {
  serial = c.serial.now;
  algorithm = c.algorithm.now;
  issuer = c.issuer.now;
  validity = c.validity.now;
  subject = c.subject.now;
  key = c.key.now;
  extensions = c.extensions.now;
}
