-- What `itv sign --onto` writes (a word of this project), and why it writes nothing.
use Rattle.std.specs.Prelude.{◌≡◌, ℕ, List, ◌++◌, codes}
use Rattle.it_dsse.specs.Countersigned.{HasOtherPayload, HasOtherType, IsCountersigned, LacksKey}
use Rattle.it_dsse.specs.Envelope.{EnvelopeOf}
use Rattle.it_dsse.specs.Written.{written_form}
use Rattle.it_dsse.specs.declared.envelope.Envelope.{Envelope}
use Rattle.it_dsse.specs.declared.ring_entry.RingEntry.{RingEntry}
use Rattle.it_outcome.specs.declared.outcome.RunFault.{RunFault}
use Rattle.it_outcome.specs.declared.outcome.RunFault.TheVariants.{
  Write,
  OutOfMemory,
  UnknownKey,
  BadName,
  Digest,
  NoEnvelope,
  OtherPayload,
  OtherType,
  BadMaterials,
  BadProducts,
  BadSubjects,
  NoSubjects,
  BadParameters,
}

-- the text is the written form of the envelope in the bytes, with one more signature of the body,
-- under a key of the ring, and a line feed
pub record IsSignOntoOutput (ring : List RingEntry) (id kind body bytes text : List ℕ)
    : Type 0 where
  pub before : Envelope
  pub read : EnvelopeOf bytes before
  pub envelope : Envelope
  pub signed : IsCountersigned ring id kind body before envelope
  pub text_is : text ≡ written_form envelope ++ codes "\n"

-- the bytes are an envelope of which P holds
abbrev pub IsEnvelopeWith : (Envelope → Type 0) → List ℕ → Type 0
IsEnvelopeWith P bytes = (envelope : Envelope) × EnvelopeOf bytes envelope × P envelope

-- a fault that the command may have, and what it says of the bytes given as an envelope
module _ (ring : List RingEntry) (id kind body bytes : List ℕ) where
  abbrev pub IsSignOntoFault : RunFault → Type 0
  IsSignOntoFault Write = Unit {0}
  IsSignOntoFault OutOfMemory = Unit {0}
  IsSignOntoFault UnknownKey = IsEnvelopeWith (LacksKey ring id kind body) bytes
  IsSignOntoFault BadName = ⊥
  IsSignOntoFault (Digest fault) = ⊥
  IsSignOntoFault NoEnvelope = (envelope : Envelope) → ¬ EnvelopeOf bytes envelope
  IsSignOntoFault OtherPayload = IsEnvelopeWith (HasOtherPayload kind body) bytes
  IsSignOntoFault OtherType = IsEnvelopeWith (HasOtherType kind) bytes
  IsSignOntoFault (BadMaterials line) = ⊥
  IsSignOntoFault (BadProducts line) = ⊥
  IsSignOntoFault (BadSubjects line) = ⊥
  IsSignOntoFault NoSubjects = ⊥
  IsSignOntoFault BadParameters = ⊥
