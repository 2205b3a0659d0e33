-- The place of the first signature of an envelope that is valid for a key (DSSE v1.0, "Protocol";
-- that places count from 1 is this profile's choice).
use Rattle.std.specs.Prelude.{◌≡◌, ◌+◌, ℕ, List, All, Some, slice_get, take}
use Rattle.it_dsse.specs.Panel.{KeyNumber, Panel}
use Rattle.it_dsse.specs.Signed.{Vouches, message_of}
use Rattle.it_dsse.specs.declared.envelope.Envelope.{Envelope}
use Rattle.it_dsse.specs.declared.envelope.Signature.{Signature}
use Rattle.it_dsse.specs.declared.key_object.KeyObject.{KeyObject}

-- at a place, from 1, stands the first signature for which P holds
pub record IsFirstPlace (P : Signature → Type 0) (signatures : List Signature) (place : ℕ)
    : Type 0 where
  pub index : ℕ
  pub place_is : place ≡ index + 1
  pub signature : Signature
  pub stands : slice_get signatures index ≡ Some signature
  pub holds : P signature
  pub none_before : All (λ earlier. ¬ P earlier) (take index signatures)

-- an id and an object name a key, and at a place stands the first signature of the envelope that is
-- admitted for the id and valid for the key
pub record IsSignedAt (panel : Panel) (envelope : Envelope) (id : List ℕ) (object : KeyObject)
    (place : ℕ) : Type 0 where
  pub n : KeyNumber
  pub key : panel.key_of id object ≡ Some n
  pub first : IsFirstPlace (Vouches panel id n (message_of envelope)) envelope.signatures place
