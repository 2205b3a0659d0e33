-- Which keys are near an identity: those of one issuer and, up to the last @, of one name, such as
-- those of one workflow at different tags (this profile's choice).
use Rattle.std.specs.Prelude.{ℕ, List, Bool, ◌&&◌, ◌==◌, false, Option, Some, None}
use Rattle.std.specs.Prelude.{if◌then◌else◌}
use Rattle.std.specs.List.{before_last, list_any}
use Rattle.std.specs.Str.{bytes_eq}
use Rattle.it_dsse.specs.declared.key_object.KeyObject.{KeyObject}
use Rattle.it_identity.specs.declared.identity.Identity.{Identity}
use Rattle.it_vouched.specs.ObjectIdentity.{has_identity}

-- a byte is @
abbrev pub is_at : ℕ → Bool
is_at byte = byte == 0x40

-- what stands before the last @ of a name, if it has one
abbrev pub before_at : List ℕ → Option (List ℕ)
before_at name = if list_any is_at name then Some (before_last is_at name) else None

-- both fronts are there, and are the same
abbrev pub is_one_front : Option (List ℕ) → Option (List ℕ) → Bool
is_one_front (Some front) (Some other) = bytes_eq front other
is_one_front (Some front) None = false
is_one_front None other = false

-- two names each have an @, and have the same before the last one
abbrev pub is_alike : List ℕ → List ℕ → Bool
is_alike one other = is_one_front (before_at one) (before_at other)

-- a key describes an identity of the same issuer, whose name is the same before its last @
abbrev pub is_near : Identity → KeyObject → Bool
is_near identity key = bytes_eq key.issuer identity.issuer
    && (is_alike key.identity identity.name && has_identity key)
