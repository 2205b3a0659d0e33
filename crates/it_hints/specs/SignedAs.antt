-- Under which key id a key signed an envelope (DSSE v1.0, "Protocol", which calls keyid an
-- unauthenticated hint).
use Rattle.std.specs.Prelude.{◌≡◌, ℕ, List, Some, IsTrue}
use Rattle.it_dsse.specs.Panel.{KeyNumber, Panel}
use Rattle.it_dsse.specs.Signed.{message_of}
use Rattle.it_dsse.specs.Vouched.{is_vouched}
use Rattle.it_dsse.specs.declared.envelope.Envelope.{Envelope}
use Rattle.it_dsse.specs.declared.key_object.KeyObject.{KeyObject}

-- a signature that is tried for this key id is valid for the key that another id and an object name
pub record IsSignedAs (panel : Panel) (envelope : Envelope) (id : List ℕ) (object : KeyObject)
    (keyid : List ℕ) : Type 0 where
  pub n : KeyNumber
  pub key : panel.key_of id object ≡ Some n
  pub vouched :
      IsTrue (is_vouched panel keyid n (message_of envelope) envelope.signatures)
