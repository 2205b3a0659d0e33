-- Who signed the envelope of a file, as a text (this profile's choice of the text).
use Rattle.std.specs.Prelude.{◌≡◌, ◌↔◌, ◌⊎◌, ℕ, List, Any, map}
use Rattle.std.specs.FinMap.{entries}
use Rattle.it_base.specs.Table.{Named}
use Rattle.it_dsse.specs.Panel.{Panel}
use Rattle.it_dsse.specs.Signed.{AreThose, IsSigner}
use Rattle.it_dsse.specs.declared.envelope.Envelope.{Envelope}
use Rattle.it_dsse.specs.declared.key_object.KeyObject.{KeyObject}
use Rattle.it_report.specs.Report.{report_of}
use Rattle.it_report.specs.declared.verdict.Verdict.TheVariants.{Refused as refused_for}
use Rattle.it_outcome.specs.declared.outcome.Status.{Status}
use Rattle.it_outcome.specs.declared.outcome.Status.TheVariants.{Good, Refused}
use Rattle.it_commands.specs.NoEnvelope.{no_envelope}
use Rattle.it_commands.specs.SignedOutput.{names_text}
use Rattle.it_signers.specs.FileEnvelope.{HasEnvelope}

-- the key that the panel knows by an id and its object signed the envelope
abbrev pub HasSigned : Panel → Envelope → List ℕ × KeyObject → Type 0
HasSigned panel envelope entry = IsSigner panel envelope entry.1 entry.0

-- the text names the ids whose keys signed the envelope, in the order of their bytes, and the
-- status says whether there are any
pub record NamesSigners (panel : Panel) (objects : Named KeyObject) (envelope : Envelope)
    (text : List ℕ) (status : Status) : Type 0 where
  pub signers : List (List ℕ × KeyObject)
  pub are_those : AreThose (HasSigned panel envelope) (entries objects) signers
  pub text_is : text ≡ names_text (map (λ entry. entry.0) signers)
  pub good : (status ≡ Good) ↔ Any (HasSigned panel envelope) (entries objects)

-- the text refuses bytes that are no envelope, and no bundle
pub record RefusesFile (bytes text : List ℕ) (status : Status) : Type 0 where
  pub none : (envelope : Envelope) → ¬ HasEnvelope bytes envelope
  pub text_is : text ≡ report_of (refused_for no_envelope)
  pub status_is : status ≡ Refused

-- what the command writes and finds
abbrev pub IsSignersOutput : Panel → Named KeyObject → List ℕ → List ℕ → Status → Type 0
IsSignersOutput panel objects bytes text status =
    ((envelope : Envelope) × HasEnvelope bytes envelope
    × NamesSigners panel objects envelope text status)
    ⊎ RefusesFile bytes text status
