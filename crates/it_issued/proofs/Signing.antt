-- Signatures of certificates, by the keys that bytes are.
use Rattle.std.proofs.Common.{◌≡◌, ℕ, ◌^◌, ◌<◌, List, [], ◌++◌, length, Bool, false, IsTrue, ◌↔◌, sym, ap, subst, ◌∙◌}
use Rattle.it_der.specs.Element.{wrap}
use Rattle.it_certificate.specs.Authority.{AreTied, IsSignedBy}
use Rattle.it_certificate.specs.Certificate.{facts_of}
use Rattle.it_certificate.specs.Parts.{parts_of, signed_bytes}
use Rattle.it_certificate.specs.declared.certificate.Certificate.{Certificate}
use Rattle.it_certificate_log.specs.Bare.{WasRead}
use Rattle.it_p256.specs.Key.{Key as KeyOfP256, IsKey as IsKeyOfP256, info_of as info_of_p256}
use Rattle.it_p256.specs.Signature.{IsSignature as IsSignatureOfP256}
use Rattle.it_p256.proofs.Infos.{same_key as same_key_of_p256}
use Rattle.it_p384.specs.Key.{Key as KeyOfP384, IsKey as IsKeyOfP384, info_of as info_of_p384}
use Rattle.it_p384.specs.Signature.{IsSignature as IsSignatureOfP384}
use Rattle.it_p384.proofs.Infos.{same_key as same_key_of_p384}
use Rattle.it_issued.specs.Signature.{IsByP256, IsByP384, Signs, SignsFor, key_info}
use Rattle.it_issued.proofs.Tests.{refused}

pub by_p256 : (info text signature : List ℕ) (key : KeyOfP256) (b : Bool) → IsKeyOfP256 key → info ≡ info_of_p256 key
    → IsTrue b ↔ IsSignatureOfP256 key text signature → IsTrue b ↔ IsByP256 info text signature
by_p256 info text signature key b is info_is iff = (
  λ t. record { key = key; is_key = is; info_is = info_is; signed = iff.0 t },
  λ by. iff.1 (subst (λ (k : KeyOfP256). IsSignatureOfP256 k text signature)
      (same_key_of_p256 by.key key by.is_key is (sym by.info_is ∙ info_is)) by.signed),
)

pub no_p256 : (info text signature : List ℕ) → ((key : KeyOfP256) → IsKeyOfP256 key → info ≡ info_of_p256 key → ⊥)
    → IsTrue false ↔ IsByP256 info text signature
no_p256 info text signature none = refused (IsByP256 info text signature) (λ by. none by.key by.is_key by.info_is)

pub by_p384 : (info text signature : List ℕ) (key : KeyOfP384) (b : Bool) → IsKeyOfP384 key → info ≡ info_of_p384 key
    → IsTrue b ↔ IsSignatureOfP384 key text signature → IsTrue b ↔ IsByP384 info text signature
by_p384 info text signature key b is info_is iff = (
  λ t. record { key = key; is_key = is; info_is = info_is; signed = iff.0 t },
  λ by. iff.1 (subst (λ (k : KeyOfP384). IsSignatureOfP384 k text signature)
      (same_key_of_p384 by.key key by.is_key is (sym by.info_is ∙ info_is)) by.signed),
)

pub no_p384 : (info text signature : List ℕ) → ((key : KeyOfP384) → IsKeyOfP384 key → info ≡ info_of_p384 key → ⊥)
    → IsTrue false ↔ IsByP384 info text signature
no_p384 info text signature none = refused (IsByP384 info text signature) (λ by. none by.key by.is_key by.info_is)

-- the key of a certificate that was read
pub key_short : (c : Certificate) → WasRead c → length c.parts.key.now < 2 ^ 16
key_short c read = read.certificate.parts.inner.elements.short.1.1.1.1.1.1.0

pub key_written : (c : Certificate) (old new : List ℕ) → WasRead c → old ≡ [] → new ≡ old ++ wrap 48 c.parts.key.now
    → new ≡ key_info c.key.curve c.key.coordinates.now
key_written c old new read none after =
    after ∙ ap (λ (l : List ℕ). l ++ wrap 48 c.parts.key.now) none
    ∙ ap (λ (l : List ℕ). wrap 48 l) read.certificate.says.key.written

-- a signature of what was read is one of the certificate
pub signed_is : (c d : Certificate) (info : List ℕ) (b : Bool) → WasRead c → AreTied d.key.curve c.algorithm
    → info ≡ key_info d.key.curve d.key.coordinates.now
    → IsTrue b ↔ SignsFor d.key.curve info c.parts.signed.now c.parts.signature.now
    → IsTrue b ↔ IsSignedBy Signs (facts_of c) (facts_of d)
signed_is c d info b read tied info_is iff =
    let by = subst (λ (i : List ℕ). IsTrue b ↔ SignsFor d.key.curve i c.parts.signed.now c.parts.signature.now) info_is iff in
    let of : IsTrue b ↔ SignsFor d.key.curve (key_info d.key.curve d.key.coordinates.now) (signed_bytes (parts_of c.parts)) c.parts.signature.now =
    subst (λ (t : List ℕ). IsTrue b ↔ SignsFor d.key.curve (key_info d.key.curve d.key.coordinates.now) t c.parts.signature.now) read.signed by in (
      λ t. record { tied = tied; signed = of.0 t },
      λ signed. of.1 signed.signed,
    )
