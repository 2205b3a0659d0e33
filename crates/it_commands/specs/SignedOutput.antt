-- Who signed an envelope, as a text (this profile's choice of the text).
use Rattle.std.specs.Prelude.{◌≡◌, ◌≢◌, ◌↔◌, ◌⊎◌, ℕ, List, [], ◌++◌, Any, codes}
use Rattle.std.specs.List.{flat_map}
use Rattle.it_dsse.specs.Panel.{Panel}
use Rattle.it_dsse.specs.Envelope.{EnvelopeOf}
use Rattle.it_dsse.specs.Signed.{AreThose, IsSigner}
use Rattle.it_dsse.specs.declared.envelope.Envelope.{Envelope}
use Rattle.it_dsse.specs.declared.key_object.KeyObject.{KeyObject}
use Rattle.it_report.specs.Name.{name_form}
use Rattle.it_outcome.specs.declared.outcome.Status.{Status}
use Rattle.it_outcome.specs.declared.outcome.Status.TheVariants.{Good}
use Rattle.it_commands.specs.NoEnvelope.{RefusesBytes}

-- the key object that checks are given
abbrev pub ring_object : KeyObject
ring_object = record {
  keytype = codes "hmac";
  scheme = codes "hmac-sha256";
  public = [];
  identity = [];
  issuer = [];
}

-- names, one per line
abbrev pub names_text : List (List ℕ) → List ℕ
names_text names = flat_map (λ name. name_form name ++ codes "\n") names

-- the text lists names, and the status says whether there is one
pub record ListsNames (names : List (List ℕ)) (text : List ℕ) (status : Status) : Type 0 where
  pub text_is : text ≡ names_text names
  pub good : (status ≡ Good) ↔ (names ≢ [])

-- the text names those of the ids that signed the envelope, and the status says whether any did
pub record NamesSigners (panel : Panel) (ids : List (List ℕ)) (envelope : Envelope) (text : List ℕ)
    (status : Status) : Type 0 where
  pub signers : List (List ℕ)
  pub are_those : AreThose (IsSigner panel envelope ring_object) ids signers
  pub text_is : text ≡ names_text signers
  pub good : (status ≡ Good) ↔ Any (IsSigner panel envelope ring_object) ids

-- what the command writes and finds
abbrev pub IsSignedOutput : Panel → List (List ℕ) → List ℕ → List ℕ → Status → Type 0
IsSignedOutput panel ids bytes text status =
    ((envelope : Envelope) × EnvelopeOf bytes envelope
    × NamesSigners panel ids envelope text status)
    ⊎ RefusesBytes bytes text status
