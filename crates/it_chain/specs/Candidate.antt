-- Which files can hold a body for a step.
use Rattle.std.specs.Prelude.{◌≡◌, ℕ, List}
use Rattle.it_dsse.specs.Envelope.{EnvelopeOf}
use Rattle.it_dsse.specs.declared.envelope.Envelope.{Envelope}
use Rattle.it_docs.specs.PayloadType.{in_toto_type}

-- the bytes are this envelope, of the in-toto type
pub record IsCandidate (bytes : List ℕ) (envelope : Envelope) : Type 0 where
  pub is_envelope : EnvelopeOf bytes envelope
  pub type_is : envelope.payload_type ≡ in_toto_type
