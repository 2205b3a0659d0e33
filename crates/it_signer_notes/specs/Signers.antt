-- Which identities signed the provenance and are keys of no builder (this project's choice).
use Rattle.std.specs.Prelude.{List, Bool, ◌&&◌, not, filter, map, reverse}
use Rattle.std.specs.List.{list_any}
use Rattle.std.specs.Set.{unique_keys}
use Rattle.std.specs.Str.{bytes_eq}
use Rattle.it_dsse.specs.declared.key_object.KeyObject.{KeyObject}
use Rattle.it_identity.specs.declared.identity.Identity.{Identity}
use Rattle.it_vouched.specs.ObjectIdentity.{describes}
use Rattle.it_vouched.specs.declared.vouched.Vouched.{Vouched}

-- one of the keys describes the identity
abbrev pub is_listed : List KeyObject → Identity → Bool
is_listed keys identity = list_any (λ key. describes key identity) keys

-- two identities have one name and one issuer
abbrev pub is_same : Identity → Identity → Bool
is_same one other = bytes_eq one.name other.name && bytes_eq one.issuer other.issuer

-- the identities without repeats: each where it stands first, which is last from behind
abbrev pub each_once : List Identity → List Identity
each_once identities = reverse (unique_keys is_same (reverse identities))

-- the identities for which lines vouch and which none of the keys describes, each once, in the
-- order of the lines
abbrev pub unlisted : List KeyObject → List Vouched → List Identity
unlisted keys vouched =
    filter (λ identity. not (is_listed keys identity)) (each_once (map (λ v. v.identity) vouched))
