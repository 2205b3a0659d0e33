-- The ids of the keys that signed an envelope.
use Rattle.std.specs.Prelude.{◌≡◌, ℕ, List, map}
use Rattle.std.specs.FinMap.{entries}
use Rattle.it_base.specs.Table.{Named}
use Rattle.it_dsse.specs.Panel.{Panel}
use Rattle.it_dsse.specs.Signed.{AreThose}
use Rattle.it_dsse.specs.declared.envelope.Envelope.{Envelope}
use Rattle.it_dsse.specs.declared.key_object.KeyObject.{KeyObject}
use Rattle.it_signers.specs.SignersOutput.{HasSigned}

-- the names are the ids whose keys signed the envelope, in the order of their bytes
pub record AreSignerNames (panel : Panel) (objects : Named KeyObject) (envelope : Envelope)
    (names : List (List ℕ)) : Type 0 where
  pub signers : List (List ℕ × KeyObject)
  pub are_those : AreThose (HasSigned panel envelope) (entries objects) signers
  pub names_are : names ≡ map (λ entry. entry.0) signers
