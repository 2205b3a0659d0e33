-- The keys of key objects.
use Rattle.std.proofs.Common.{◌≡◌, ◌∙◌, ◌≤◌, ◌&&◌, ℕ, List, Bool, true, false, Some, None, option_map}
use Rattle.std.proofs.Common.{if◌then◌else◌, ap, arith, codes, length, nat_le, refl, sym}
use Rattle.std.specs.Str.{bytes_eq}
use Rattle.std.proofs.lemmas.Bool.Decides.{nat_tests}
use Rattle.std.proofs.lemmas.Option.{same_Some}
use Rattle.it_dsse.specs.declared.key_object.KeyObject.{KeyObject}
use Rattle.it_identity.specs.Identity.{IsIdentity, IsOfBytes, IsShort}
use Rattle.it_identity.specs.Name.{number_of}
use Rattle.it_identity.specs.declared.identity.Identity.{Identity}
use Rattle.it_identity.proofs.Names.{numbers_tell}
use Rattle.it_vouched.specs.ObjectIdentity.{has_identity, identity_in, is_short}
use Rattle.it_vouched.proofs.Saying.{both}

abbrev pub identity_of : KeyObject → Identity
identity_of object = record { name = object.identity; issuer = object.issuer }

known_if : (b : Bool) (identity : Identity) (n : ℕ)
    → option_map number_of (if b then Some identity else None) ≡ Some n → (b ≡ true) × (number_of identity ≡ n)
known_if true identity n e = (refl, same_Some (number_of identity) n e)
known_if false identity n e = cc

short : (text : List ℕ) → is_short text ≡ true → IsShort text
short text e =
    let parts = both (nat_le 1 (length text)) (nat_le (length text) 512) e in
    let some : 1 ≤ length text = grind (arith, nat_tests, parts.0) in
    let few : length text ≤ 512 = grind (arith, nat_tests, parts.1) in
    record { some = omega arith; few = few }

pub is_identity : (object : KeyObject) → has_identity object ≡ true → IsIdentity (identity_of object)
is_identity object e =
    let scheme = both (bytes_eq object.scheme (codes "Fulcio")) (is_short object.identity && is_short object.issuer) e in
    let texts = both (is_short object.identity) (is_short object.issuer) scheme.1 in
    record { name = short object.identity texts.0; issuer = short object.issuer texts.1 }

-- objects with one number are of one identity
pub one_identity : (object other : KeyObject) (n : ℕ) → IsOfBytes (identity_of object) → IsOfBytes (identity_of other)
    → option_map number_of (identity_in object) ≡ Some n → option_map number_of (identity_in other) ≡ Some n
    → (object.identity ≡ other.identity) × (object.issuer ≡ other.issuer)
one_identity object other n bytes others e f =
    let here = known_if (has_identity object) (identity_of object) n e in
    let there = known_if (has_identity other) (identity_of other) n f in
    let same = numbers_tell (identity_of object) (identity_of other) (is_identity object here.0) (is_identity other there.0)
    bytes others (here.1 ∙ sym there.1) in
    (ap (λ (i : Identity). i.name) same, ap (λ (i : Identity). i.issuer) same)
