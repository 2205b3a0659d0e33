-- The ids of the keys that signed a message.
use Rattle.std.specs.Prelude.{◌≡◌, ℕ, List, map}
use Rattle.std.specs.FinMap.{entries}
use Rattle.it_base.specs.Table.{Named}
use Rattle.it_dsse.specs.Signed.{AreThose}
use Rattle.it_dsse.specs.declared.envelope.Signature.{Signature}
use Rattle.it_dsse.specs.declared.key_object.KeyObject.{KeyObject}
use Rattle.it_key_commands.specs.Signers.{SignedUnder}

-- the names are the ids whose keys signed the message, in the order of their bytes
pub record AreSignerNames (objects : Named KeyObject) (message : List ℕ)
    (signatures : List Signature) (names : List (List ℕ)) : Type 0 where
  pub signers : List (List ℕ × KeyObject)
  pub are_those : AreThose (SignedUnder message signatures) (entries objects) signers
  pub names_are : names ≡ map (λ entry. entry.0) signers
