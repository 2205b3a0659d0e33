-- Whether a key object describes an identity, as a test.
use Rattle.std.proofs.Common.{◌≡◌, ◌&&◌, Bool, true, false, Some, None, if◌then◌else◌}
use Rattle.std.proofs.Common.{ap, refl}
use Rattle.std.specs.Str.{bytes_eq}
use Rattle.std.proofs.lemmas.Option.{same_Some}
use Rattle.it_dsse.specs.declared.key_object.KeyObject.{KeyObject}
use Rattle.it_identity.specs.declared.identity.Identity.{Identity}
use Rattle.it_vouched.specs.Laws.{DescribesIdentityIn}
use Rattle.it_vouched.specs.ObjectIdentity.{describes, has_identity, identity_in}
use Rattle.it_vouched.proofs.Keys.{identity_of}
use Rattle.it_vouched.proofs.Saying.{both, bytes_equal, equal_bytes}

pub described : (object : KeyObject) (identity : Identity) → describes object identity ≡ true
    → identity_in object ≡ Some identity
described object identity e =
    let scheme = both (has_identity object)
    (bytes_eq object.identity identity.name && bytes_eq object.issuer identity.issuer) e in
    let texts = both (bytes_eq object.identity identity.name)
    (bytes_eq object.issuer identity.issuer) scheme.1 in
    let name = equal_bytes object.identity identity.name texts.0 in
    let issuer = equal_bytes object.issuer identity.issuer texts.1 in
    rw scheme.0 (λ i. Some (record { name = name i; issuer = issuer i }))

describing_if : (b : Bool) (object : KeyObject) (identity : Identity)
    → (if b then Some (identity_of object) else None) ≡ Some identity
    → (b && (bytes_eq object.identity identity.name && bytes_eq object.issuer identity.issuer)) ≡ true
describing_if true object identity e =
    let same = same_Some (identity_of object) identity e in
    rw (
      bytes_equal object.identity identity.name (ap (λ (i : Identity). i.name) same),
      bytes_equal object.issuer identity.issuer (ap (λ (i : Identity). i.issuer) same),
    ) refl
describing_if false object identity e = cc

pub describes_identity_in : DescribesIdentityIn
describes_identity_in object identity =
    (described object identity, describing_if (has_identity object) object identity)
