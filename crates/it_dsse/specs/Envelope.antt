-- Envelopes (DSSE v1.0, "Envelope", its JSON form).
use Rattle.std.specs.Prelude.{ℕ, List, [], codes}
use Rattle.serde_json.specs.Data.{Data}
use Rattle.it_base.specs.Base64Text.{IsBase64}
use Rattle.it_base.specs.Document.{OfDocument}
use Rattle.it_base.specs.Parts.{IsPart, IsPartOr}
use Rattle.it_base.specs.Sequence.{IsList}
use Rattle.it_base.specs.Text.{IsText}
use Rattle.it_dsse.specs.declared.envelope.Envelope.{Envelope}
use Rattle.it_dsse.specs.declared.envelope.Signature.{Signature}

-- a signature in a document: its hint about the key may be missing, and is then empty
pub record IsSignature (d : Data) (signature : Signature) : Type 0 where
  pub sig : IsPart IsBase64 (codes "sig") d signature.sig
  pub keyid : IsPartOr IsText [] (codes "keyid") d signature.keyid

-- an envelope in a document
pub record IsEnvelope (d : Data) (envelope : Envelope) : Type 0 where
  pub payload : IsPart IsBase64 (codes "payload") d envelope.payload
  pub payload_type : IsPart IsText (codes "payloadType") d envelope.payload_type
  pub signatures : IsPart (IsList IsSignature) (codes "signatures") d envelope.signatures

-- the bytes are a document that is this envelope
abbrev pub EnvelopeOf : List ℕ → Envelope → Type 0
EnvelopeOf = OfDocument IsEnvelope
