-- How many signatures an envelope may have where public keys are checked: a check by a public key
-- reads the whole message anew for each signature (this profile's choice; DSSE v1.0 has no limit).
use Rattle.std.specs.Prelude.{◌≡◌, ◌<◌, ℕ, List, length}
use Rattle.it_dsse.specs.Envelope.{EnvelopeOf}
use Rattle.it_dsse.specs.declared.envelope.Envelope.{Envelope}

-- at most this many signatures are looked at
abbrev pub most_signatures : ℕ
most_signatures = 64

-- the bytes are an envelope with this many signatures, which is too many
pub record IsOverLimit (bytes : List ℕ) (count : ℕ) : Type 0 where
  pub envelope : Envelope
  pub reads : EnvelopeOf bytes envelope
  pub count_is : count ≡ length envelope.signatures
  pub is_over : most_signatures < count

-- the bytes are no envelope with too many signatures
abbrev pub IsWithinLimit : List ℕ → Type 0
IsWithinLimit bytes = (count : ℕ) → ¬ IsOverLimit bytes count
