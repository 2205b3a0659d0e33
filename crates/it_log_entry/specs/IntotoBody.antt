-- Bodies of entries of kind `intoto`, version 0.0.2 (Rekor).
use Rattle.std.specs.Prelude.{◌≡◌, ℕ, List, [], ◌∷◌, Some, codes}
use Rattle.serde_json.specs.Data.{Data}
use Rattle.it_base.specs.Base64Text.{IsBase64, base64_decoded}
use Rattle.it_base.specs.Parts.{IsPart}
use Rattle.it_base.specs.Sequence.{IsList}
use Rattle.it_base.specs.Text.{IsText}
use Rattle.it_log_entry.specs.CertificateText.{IsEncodedCertificate}
use Rattle.it_log_entry.specs.PayloadHash.{IsPayloadHash}
use Rattle.it_log_entry.specs.declared.logged.Logged.{Logged}

-- base64 of base64 of these bytes
pub record IsTwiceBase64 (d : Data) (bytes : List ℕ) : Type 0 where
  pub text : List ℕ
  pub outer : IsBase64 d text
  pub inner : base64_decoded text ≡ Some bytes

-- the signature and its certificate
pub record IsIntotoSignature (d : Data) (logged : Logged) : Type 0 where
  pub signature : IsPart IsTwiceBase64 (codes "sig") d logged.signature.now
  pub certificate : IsPart IsEncodedCertificate (codes "publicKey") d logged.certificate.now

-- the envelope, without its payload, with this signature and no other
pub record IsIntotoEnvelope (d : Data) (logged : Logged) : Type 0 where
  pub payload_type : IsPart IsText (codes "payloadType") d logged.payload_type.now
  pub signatures : IsPart (IsList IsIntotoSignature) (codes "signatures") d (logged ∷ [])

pub record IsIntotoContent (d : Data) (logged : Logged) : Type 0 where
  pub payload : IsPart IsPayloadHash (codes "payloadHash") d logged.payload.now
  pub envelope : IsPart IsIntotoEnvelope (codes "envelope") d logged

-- the `spec` of a body about this signature, and no other
abbrev pub IsIntotoBody : Data → Logged → Type 0
IsIntotoBody = IsPart IsIntotoContent (codes "content")
