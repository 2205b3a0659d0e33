-- One more signature on an envelope (DSSE v1.0, "Protocol", which lets several keys sign one
-- payload; giving body and type again is this profile's choice).
use Rattle.std.specs.Prelude.{◌≡◌, ◌≢◌, ℕ, List, [], ◌∷◌, ◌++◌, MatchOption, None, find}
use Rattle.it_dsse.specs.Ring.{has_id}
use Rattle.it_dsse.specs.Signing.{signature_of}
use Rattle.it_dsse.specs.declared.envelope.Envelope.{Envelope}
use Rattle.it_dsse.specs.declared.envelope.Signature.{Signature}
use Rattle.it_dsse.specs.declared.ring_entry.RingEntry.{RingEntry}

-- the signature is that of the body under the secret that the ring has for the id
abbrev pub IsSignatureUnder : List RingEntry → List ℕ → List ℕ → List ℕ → Signature → Type 0
IsSignatureUnder ring id kind body signature =
    MatchOption (find (has_id id) ring) ⊥
    (λ entry. signature ≡ signature_of entry.secret id kind body)

-- the old envelope holds the body, and the new one is the same with one more signature at the end
pub record IsCountersigned (ring : List RingEntry) (id kind body : List ℕ)
    (old new : Envelope) : Type 0 where
  pub old_type : old.payload_type ≡ kind
  pub old_payload : old.payload ≡ body
  pub payload_type : new.payload_type ≡ old.payload_type
  pub payload : new.payload ≡ old.payload
  pub added : Signature
  pub is_added : IsSignatureUnder ring id kind body added
  pub signatures : new.signatures ≡ old.signatures ++ added ∷ []

-- the envelope has another type
abbrev pub HasOtherType : List ℕ → Envelope → Type 0
HasOtherType kind envelope = envelope.payload_type ≢ kind

-- the envelope has this type, and another payload
pub record HasOtherPayload (kind body : List ℕ) (envelope : Envelope) : Type 0 where
  pub same_type : envelope.payload_type ≡ kind
  pub other : envelope.payload ≢ body

-- the envelope holds this body, and the ring has no key under the id
pub record LacksKey (ring : List RingEntry) (id kind body : List ℕ)
    (envelope : Envelope) : Type 0 where
  pub same_type : envelope.payload_type ≡ kind
  pub same_payload : envelope.payload ≡ body
  pub unknown : find (has_id id) ring ≡ None
