-- The envelope that a key of a ring makes of a body (DSSE v1.0, "Protocol").
use Rattle.std.specs.Prelude.{◌≡◌, ℕ, List, [], ◌∷◌, MatchOption, find}
use Rattle.it_dsse.specs.Hmac.{hmac}
use Rattle.it_dsse.specs.Pae.{pae_of}
use Rattle.it_dsse.specs.Ring.{has_id}
use Rattle.it_dsse.specs.declared.envelope.Envelope.{Envelope}
use Rattle.it_dsse.specs.declared.envelope.Signature.{Signature}
use Rattle.it_dsse.specs.declared.ring_entry.RingEntry.{RingEntry}

-- the signature of a body of a type under a secret, with the id as its hint
abbrev pub signature_of : List ℕ → List ℕ → List ℕ → List ℕ → Signature
signature_of secret id kind body = record { keyid = id; sig = hmac secret (pae_of kind body) }

-- the envelope of a body of a type with that one signature
abbrev pub signed_envelope : List ℕ → List ℕ → List ℕ → List ℕ → Envelope
signed_envelope secret id kind body =
    record {
      payload = body;
      payload_type = kind;
      signatures = signature_of secret id kind body ∷ [];
    }

-- the envelope is that of the body under the secret that the ring has for the id
abbrev pub IsSignedUnder : List RingEntry → List ℕ → List ℕ → List ℕ → Envelope → Type 0
IsSignedUnder ring id kind body envelope =
    MatchOption (find (has_id id) ring) ⊥
    (λ entry. envelope ≡ signed_envelope entry.secret id kind body)
