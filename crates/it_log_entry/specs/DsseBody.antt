-- Bodies of entries of kind `dsse`, version 0.0.1 (Rekor).
use Rattle.std.specs.Prelude.{[], ◌∷◌, codes}
use Rattle.serde_json.specs.Data.{Data}
use Rattle.it_base.specs.Base64Text.{IsBase64}
use Rattle.it_base.specs.Parts.{IsPart}
use Rattle.it_base.specs.Sequence.{IsList}
use Rattle.it_log_entry.specs.CertificateText.{IsEncodedCertificate}
use Rattle.it_log_entry.specs.PayloadHash.{IsPayloadHash}
use Rattle.it_log_entry.specs.declared.logged.Logged.{Logged}

-- the signature and its certificate
pub record IsDsseSignature (d : Data) (logged : Logged) : Type 0 where
  pub signature : IsPart IsBase64 (codes "signature") d logged.signature.now
  pub certificate : IsPart IsEncodedCertificate (codes "verifier") d logged.certificate.now

-- the `spec` of a body about this signature, and no other
pub record IsDsseBody (d : Data) (logged : Logged) : Type 0 where
  pub payload : IsPart IsPayloadHash (codes "payloadHash") d logged.payload.now
  pub signatures : IsPart (IsList IsDsseSignature) (codes "signatures") d (logged ∷ [])
