-- Whose keys signed an envelope, as a text (this profile's choice of the text).
use Rattle.std.specs.Prelude.{◌≡◌, ◌↔◌, ◌⊎◌, ℕ, List, Any, map}
use Rattle.std.specs.FinMap.{entries}
use Rattle.it_base.specs.Table.{Named}
use Rattle.it_dsse.specs.Envelope.{EnvelopeOf}
use Rattle.it_dsse.specs.Signed.{AreThose, message_of}
use Rattle.it_dsse.specs.declared.envelope.Envelope.{Envelope}
use Rattle.it_dsse.specs.declared.key_object.KeyObject.{KeyObject}
use Rattle.it_outcome.specs.declared.outcome.Status.{Status}
use Rattle.it_outcome.specs.declared.outcome.Status.TheVariants.{Good}
use Rattle.it_commands.specs.NoEnvelope.{RefusesBytes}
use Rattle.it_commands.specs.SignedOutput.{names_text}
use Rattle.it_key_commands.specs.Signers.{SignedUnder}

-- the key that an object under an id describes signed the envelope
abbrev pub IsKeySigner : Envelope → List ℕ × KeyObject → Type 0
IsKeySigner envelope = SignedUnder (message_of envelope) envelope.signatures

-- the text names the ids whose keys signed the envelope, in the order of their bytes, and the
-- status says whether there are any
pub record NamesKeySigners (objects : Named KeyObject) (envelope : Envelope) (text : List ℕ)
    (status : Status) : Type 0 where
  pub signers : List (List ℕ × KeyObject)
  pub are_those : AreThose (IsKeySigner envelope) (entries objects) signers
  pub text_is : text ≡ names_text (map (λ entry. entry.0) signers)
  pub good : (status ≡ Good) ↔ Any (IsKeySigner envelope) (entries objects)

-- what the command writes and finds
abbrev pub IsSignedByKeysOutput : Named KeyObject → List ℕ → List ℕ → Status → Type 0
IsSignedByKeysOutput objects bytes text status =
    ((envelope : Envelope) × EnvelopeOf bytes envelope
    × NamesKeySigners objects envelope text status)
    ⊎ RefusesBytes bytes text status
