-- What a check of signatures means.
use Rattle.std.specs.Prelude.{ℕ, List, Option, Bool}
use Rattle.it_dsse.specs.declared.key_object.KeyObject.{KeyObject}

-- the number of the key that an id and an object name, where equal numbers are the same key (this
-- profile's choice), and whether a signature of a message is valid for the key of a given number
-- (DSSE v1.0 leaves both to the user of the protocol)
pub record Check : Type 0 where
  pub key_of : List ℕ → KeyObject → Option ℕ
  pub is_valid : ℕ → List ℕ → List ℕ → Bool
