-- What a panel of checks, side by side, means (this profile's choice).
use Rattle.std.specs.Prelude.{ℕ, suc, List, [], ◌∷◌, Bool, false, Option, Some, None, option_map}
use Rattle.std.specs.Prelude.{unwrap_or, slice_get}
use Rattle.it_dsse.specs.Check.{Check}
use Rattle.it_dsse.specs.declared.key_object.KeyObject.{KeyObject}

-- a panel's name for a key: the place of a check in it, and the key's number there
abbrev pub KeyNumber : Type 0
KeyNumber = ℕ × ℕ

-- the same as one check, but with places
pub record Panel : Type 0 where
  pub key_of : List ℕ → KeyObject → Option KeyNumber
  pub is_valid : KeyNumber → List ℕ → List ℕ → Bool

-- the key by the check at a place, where it knows the key, and otherwise by a later check
abbrev pub key_at : ℕ → Option ℕ → Option KeyNumber → Option KeyNumber
key_at place (Some n) later = Some (place, n)
key_at place None later = later

-- the key at the first place whose check knows it, counting places from this one
abbrev pub key_from : ℕ → List Check → List ℕ → KeyObject → Option KeyNumber
key_from place [] id object = None
key_from place (check ∷ checks) id object =
    key_at place (check.key_of id object) (key_from (suc place) checks id object)

-- the signature is valid according to the check at the key's place
abbrev pub is_valid_at : List Check → KeyNumber → List ℕ → List ℕ → Bool
is_valid_at checks key message sig =
    unwrap_or
    (option_map (λ check. check.is_valid key.1 message sig) (slice_get checks key.0)) false

-- what the checks answer together
abbrev pub panel_of : List Check → Panel
panel_of checks = record { key_of = key_from 0 checks; is_valid = is_valid_at checks }
