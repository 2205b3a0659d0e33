-- What is proved about these definitions.
use Rattle.std.specs.Prelude.{◌≡◌, ◌≢◌, ℕ, List, [], ◌∷◌, codes}
use Rattle.it_dsse.specs.Check.{Check}
use Rattle.it_dsse.specs.Countersigned.{IsCountersigned}
use Rattle.it_dsse.specs.Panel.{KeyNumber, Panel, panel_of}
use Rattle.it_dsse.specs.Ring.{RingOf, ring_check}
use Rattle.it_dsse.specs.Signed.{IsSigner, Signed}
use Rattle.it_dsse.specs.declared.envelope.Envelope.{Envelope}
use Rattle.it_dsse.specs.declared.key_object.KeyObject.{KeyObject}
use Rattle.it_dsse.specs.declared.ring_entry.RingEntry.{RingEntry}

-- bytes can be read as at most one ring
abbrev pub OneRing : Type 0
OneRing = (bytes : List ℕ) (x y : List RingEntry) → RingOf bytes x → RingOf bytes y → x ≡ y

-- each key that signed an envelope still counts as a signer after one more signature is added
abbrev pub EarlierSignersStay : Type 0
EarlierSignersStay =
    (ring : List RingEntry) (id kind body : List ℕ) (old new : Envelope)
    → IsCountersigned ring id kind body old new
    → (panel : Panel) (signer : List ℕ) (object : KeyObject) (n : KeyNumber)
    → Signed panel old signer object n → Signed panel new signer object n

-- and so does the key of that signature, for a panel that asks the ring first, under each key
-- object of the ring's scheme
abbrev pub LastSignerSigned : Type 0
LastSignerSigned =
    (ring : List RingEntry) (id kind body : List ℕ) (old new : Envelope)
    → IsCountersigned ring id kind body old new
    → (checks : List Check) (object : KeyObject) → object.scheme ≡ codes "hmac-sha256"
    → IsSigner (panel_of (ring_check ring ∷ checks)) new object id

-- and no other: a signer whose id is not the hint signed it before, unless the hint is empty
abbrev pub NoOtherSigner : Type 0
NoOtherSigner =
    (ring : List RingEntry) (id kind body : List ℕ) (old new : Envelope)
    → IsCountersigned ring id kind body old new
    → (panel : Panel) (signer : List ℕ) (object : KeyObject) (n : KeyNumber)
    → id ≢ [] → signer ≢ id → Signed panel new signer object n → Signed panel old signer object n
