-- Which keys signed a message, by the objects that describe them (DSSE v1.0, "Protocol"; in-toto
-- 1.0 section 4.2).
use Rattle.std.specs.Prelude.{ℕ, List, Any, IsTrue}
use Rattle.it_dsse.specs.Signed.{is_admitted}
use Rattle.it_dsse.specs.declared.envelope.Signature.{Signature}
use Rattle.it_dsse.specs.declared.key_object.KeyObject.{KeyObject}
use Rattle.it_public_keys.specs.KeyText.{describes}
use Rattle.it_public_keys.specs.Keys.{IsKey, IsSignature}
use Rattle.it_public_keys.specs.declared.key.Key.{Key}

-- the object describes this public key
pub record Describes (object : KeyObject) (key : Key) : Type 0 where
  pub written : IsTrue (describes object key)
  pub is_key : IsKey key

-- the object describes no public key
abbrev pub IsKeyless : KeyObject → Type 0
IsKeyless object = (key : Key) → ¬ Describes object key

-- the signature of a message is valid for the key that the object describes
pub record IsValidFor (object : KeyObject) (message signature : List ℕ) : Type 0 where
  pub key : Key
  pub described : Describes object key
  pub signs : IsSignature key message signature

-- a signature is tried for the id, and is valid for the key that the object describes
pub record IsOwnSignature (message : List ℕ) (entry : List ℕ × KeyObject) (signature : Signature)
    : Type 0 where
  pub tried : IsTrue (is_admitted entry.0 signature)
  pub valid : IsValidFor entry.1 message signature.sig

-- the key that an object under an id describes signed the message
abbrev pub SignedUnder : List ℕ → List Signature → List ℕ × KeyObject → Type 0
SignedUnder message signatures entry = Any (IsOwnSignature message entry) signatures
