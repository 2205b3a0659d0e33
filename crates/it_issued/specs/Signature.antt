-- Signatures of certificates (RFC 5758, section 3.2): ECDSA (FIPS 186-5, section 6.4.2) over P-256
-- with SHA-256, and over P-384 with SHA-384.
use Rattle.std.specs.Prelude.{◌≡◌, ◌++◌, ℕ, List}
use Rattle.it_der.specs.Element.{wrap}
use Rattle.it_certificate.specs.SubjectKey.{before_coordinates, key_algorithm}
use Rattle.it_certificate.specs.declared.subject_key.Curve.{Curve}
use Rattle.it_certificate.specs.declared.subject_key.Curve.TheVariants.{P256, P384}
use Rattle.it_p256.specs.Key.{Key as KeyOfP256, IsKey as IsKeyOfP256, info_of as info_of_p256}
use Rattle.it_p256.specs.Signature.{IsSignature as IsSignatureOfP256}
use Rattle.it_p384.specs.Key.{Key as KeyOfP384, IsKey as IsKeyOfP384, info_of as info_of_p384}
use Rattle.it_p384.specs.Signature.{IsSignature as IsSignatureOfP384}

-- a key as a SubjectPublicKeyInfo (RFC 5480, section 2)
abbrev pub key_info : Curve → List ℕ → List ℕ
key_info curve coordinates =
    wrap 48 (key_algorithm curve ++ before_coordinates curve ++ coordinates)

-- the bytes are a key of P-256, and the signature of the text is that key's
pub record IsByP256 (info text signature : List ℕ) : Type 0 where
  pub key : KeyOfP256
  pub is_key : IsKeyOfP256 key
  pub info_is : info ≡ info_of_p256 key
  pub signed : IsSignatureOfP256 key text signature

-- the same for P-384
pub record IsByP384 (info text signature : List ℕ) : Type 0 where
  pub key : KeyOfP384
  pub is_key : IsKeyOfP384 key
  pub info_is : info ≡ info_of_p384 key
  pub signed : IsSignatureOfP384 key text signature

abbrev pub SignsFor : Curve → List ℕ → List ℕ → List ℕ → Type 0
SignsFor P256 info text signature = IsByP256 info text signature
SignsFor P384 info text signature = IsByP384 info text signature

-- which signatures are those of a certificate's key
abbrev pub Signs : Curve → List ℕ → List ℕ → List ℕ → Type 0
Signs curve coordinates text signature =
    SignsFor curve (key_info curve coordinates) text signature
