-- Whether a signature vouches for a message, as a test.
use Rattle.std.specs.Prelude.{ℕ, List, Bool, ◌&&◌, filter}
use Rattle.std.specs.List.{list_any}
use Rattle.it_dsse.specs.Check.{Check}
use Rattle.it_dsse.specs.Panel.{KeyNumber, Panel}
use Rattle.it_dsse.specs.Signed.{first_place, is_admitted}
use Rattle.it_dsse.specs.declared.envelope.Signature.{Signature}

-- some signature is admitted for an id, and is valid for the key of number n
abbrev pub is_vouched : Panel → List ℕ → KeyNumber → List ℕ → List Signature → Bool
is_vouched panel id n message signatures =
    list_any (λ signature. is_admitted id signature && panel.is_valid n message signature.sig)
    signatures

-- the same by one check, for its key of number n
abbrev pub is_vouched_by : Check → List ℕ → ℕ → List ℕ → List Signature → Bool
is_vouched_by check id n message signatures =
    list_any (λ signature. is_admitted id signature && check.is_valid n message signature.sig)
    signatures

-- how many signatures the check tries: the admitted ones, up to the first valid
abbrev pub tries_by : Check → List ℕ → ℕ → List ℕ → List Signature → ℕ
tries_by check id n message signatures =
    first_place (λ signature. check.is_valid n message signature.sig)
    (filter (is_admitted id) signatures)
