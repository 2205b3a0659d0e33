-- What is said about provenance that is one envelope over several lines (this project's words).
use Rattle.std.specs.Prelude.{ℕ, List, Any}
use Rattle.it_digest.specs.Sums.{lines_of}
use Rattle.it_dsse.specs.Envelope.{EnvelopeOf}
use Rattle.it_dsse.specs.declared.envelope.Envelope.{Envelope}

-- the bytes as a whole are an envelope
abbrev pub IsAnEnvelope : List ℕ → Type 0
IsAnEnvelope bytes = (envelope : Envelope) × EnvelopeOf bytes envelope

-- the bytes are an envelope, and none of their lines is one
abbrev pub IsLaidOut : List ℕ → Type 0
IsLaidOut bytes = IsAnEnvelope bytes × ¬ Any IsAnEnvelope (lines_of bytes)
