-- The identity that a key object describes, as a function (TAP 18; in-toto 1.0 section 4.2).
use Rattle.std.specs.Prelude.{ℕ, List, Bool, ◌&&◌, nat_le, length, codes, if◌then◌else◌}
use Rattle.std.specs.Prelude.{Option, Some, None}
use Rattle.std.specs.Str.{bytes_eq}
use Rattle.it_dsse.specs.declared.key_object.KeyObject.{KeyObject}
use Rattle.it_identity.specs.declared.identity.Identity.{Identity}

-- a text of 1 to 512 bytes
abbrev pub is_short : List ℕ → Bool
is_short text = nat_le 1 (length text) && nat_le (length text) 512

-- the object has the scheme of identities, and both texts
abbrev pub has_identity : KeyObject → Bool
has_identity object = bytes_eq object.scheme (codes "Fulcio")
    && (is_short object.identity && is_short object.issuer)

-- the identity that an object describes: by its scheme, its identity and its issuer alone, whatever
-- its id and its other members are (this profile's choice)
abbrev pub identity_in : KeyObject → Option Identity
identity_in object =
    if has_identity object
    then Some (record { name = object.identity; issuer = object.issuer }) else None

-- this is the identity that an object describes, as a test
abbrev pub describes : KeyObject → Identity → Bool
describes object identity = has_identity object
    && (bytes_eq object.identity identity.name && bytes_eq object.issuer identity.issuer)
