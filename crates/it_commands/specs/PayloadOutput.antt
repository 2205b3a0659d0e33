-- What `itv payload` writes (a word of this project).
use Rattle.std.specs.Prelude.{◌≡◌, ◌⊎◌, ℕ, List}
use Rattle.it_dsse.specs.Envelope.{EnvelopeOf}
use Rattle.it_dsse.specs.declared.envelope.Envelope.{Envelope}
use Rattle.it_outcome.specs.declared.outcome.Status.{Status}
use Rattle.it_outcome.specs.declared.outcome.Status.TheVariants.{Good}
use Rattle.it_commands.specs.NoEnvelope.{RefusesBytes}

-- the text is exactly the payload of the envelope in the bytes
pub record GivesPayload (bytes text : List ℕ) (status : Status) : Type 0 where
  pub envelope : Envelope
  pub read : EnvelopeOf bytes envelope
  pub text_is : text ≡ envelope.payload
  pub status_is : status ≡ Good

-- what the command writes and finds
abbrev pub IsPayloadOutput : List ℕ → List ℕ → Status → Type 0
IsPayloadOutput bytes text status = GivesPayload bytes text status ⊎ RefusesBytes bytes text status
