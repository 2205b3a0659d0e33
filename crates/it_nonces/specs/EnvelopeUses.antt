-- The signatures of an envelope that are a signer's by ECDSA over P-256 (DSSE v1.0, "Protocol";
-- FIPS 186-5, section 6.4).
use Rattle.std.specs.Prelude.{◌≡◌, ◌⊎◌, ℕ, ◌<◌, ◌^◌, List, [], Option, None, Some, codes}
use Rattle.std.specs.List.{AllZip}
use Rattle.it_p256_limbs.specs.Numbers.{value_of}
use Rattle.it_ecdsa_der.specs.Der.{IsSignatureValue}
use Rattle.it_dsse.specs.Panel.{KeyNumber, Panel}
use Rattle.it_dsse.specs.Signed.{AreThose, Vouches, message_of}
use Rattle.it_dsse.specs.declared.envelope.Envelope.{Envelope}
use Rattle.it_dsse.specs.declared.envelope.Signature.{Signature}
use Rattle.it_dsse.specs.declared.key_object.KeyObject.{KeyObject}
use Rattle.it_nonces.specs.declared.nonce_use.NonceUse.{NonceUse}
use Rattle.it_nonces.specs.declared.signer.Signer.{Signer}

-- the bytes of a signature encode two numbers, r and s (RFC 3279, section 2.2.3)
pub record HasNumbers (signature : Signature) : Type 0 where
  pub r : ℕ
  pub s : ℕ
  pub r_below : r < 2 ^ 256
  pub s_below : s < 2 ^ 256
  pub encoded : IsSignatureValue signature.sig r s

-- this is a signature, by its r, as the signer's by the key of number n
pub record IsUse (signer : Signer) (n : KeyNumber) (signature : Signature) (at : NonceUse)
    : Type 0 where
  pub signer_is : at.signer ≡ signer
  pub key_is : at.key ≡ n
  pub s : ℕ
  pub encoded : IsSignatureValue signature.sig (value_of at.r) s

-- the same where it has numbers, or none
abbrev pub IsUseOrNone : Signer → KeyNumber → Signature → Option NonceUse → Type 0
IsUseOrNone signer n signature None = ¬ HasNumbers signature
IsUseOrNone signer n signature (Some at) =
    HasNumbers signature × IsUse signer n signature at

-- those of the signatures that have numbers, in their order
pub record AreReadFrom (signer : Signer) (n : KeyNumber) (signatures : List Signature)
    (uses : List NonceUse) : Type 0 where
  pub numbered : List Signature
  pub are_those : AreThose HasNumbers signatures numbered
  pub each : AllZip (IsUse signer n) numbered uses

-- the signatures of an envelope that are admitted for the signer's id and valid for the key of
-- number n, and have numbers
pub record AreUses (panel : Panel) (envelope : Envelope) (signer : Signer) (n : KeyNumber)
    (uses : List NonceUse) : Type 0 where
  pub vouching : List Signature
  pub are_those : AreThose (Vouches panel signer.id n (message_of envelope)) envelope.signatures
      vouching
  pub are_read : AreReadFrom signer n vouching uses

-- an object describes a key of ECDSA over P-256 (in-toto 1.0 section 4.2), which is that of number
-- n
pub record IsCurveKey (panel : Panel) (id : List ℕ) (object : KeyObject) (n : KeyNumber)
    : Type 0 where
  pub scheme_is : object.scheme ≡ codes "ecdsa-sha2-nistp256"
  pub key_is : panel.key_of id object ≡ Some n

-- the signatures of an envelope that are the signer's, whose key an object describes: none where it
-- is no key of ECDSA over P-256
abbrev pub EnvelopeUses : Panel → Envelope → Signer → KeyObject → List NonceUse → Type 0
EnvelopeUses panel envelope signer object uses =
    ((n : KeyNumber) × IsCurveKey panel signer.id object n
    × AreUses panel envelope signer n uses)
    ⊎ (((n : KeyNumber) → ¬ IsCurveKey panel signer.id object n) × (uses ≡ []))
