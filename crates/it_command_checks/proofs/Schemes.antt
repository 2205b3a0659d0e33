-- No object has the scheme of identities and is known by a ring or as a public key.
use Rattle.std.proofs.Common.{◌≡◌, ◌∙◌, ℕ, List, [], ◌∷◌, suc, Bool, true, false, ◌&&◌, None, Some, codes, map, refl}
use Rattle.std.proofs.Common.{if◌then◌else◌, option_map}
use Rattle.std.specs.Str.{bytes_eq}
use Rattle.it_dsse.specs.Panel.{KeyNumber, key_from, panel_of}
use Rattle.it_dsse.specs.Ring.{ring_check}
use Rattle.it_dsse.specs.declared.key_object.KeyObject.{KeyObject}
use Rattle.it_dsse.specs.declared.ring_entry.RingEntry.{RingEntry}
use Rattle.it_identity.specs.Name.{number_of}
use Rattle.it_identity.specs.declared.identity.Identity.{Identity}
use Rattle.it_public_keys.specs.NamedKeys.{public_key_check}
use Rattle.it_public_keys.specs.OwnChecks.{key_checks, own_checks}
use Rattle.it_vouched.specs.Check.{vouched_check}
use Rattle.it_vouched.specs.ObjectIdentity.{has_identity, is_short}
use Rattle.it_vouched.specs.declared.vouched.Vouched.{Vouched}
use Rattle.it_vouched.proofs.Saying.{both, equal_bytes}
use Rattle.it_command_checks.proofs.Appended.{known_later}

module _ (id : List ℕ) (object : KeyObject) (is : object.scheme ≡ codes "Fulcio") where
  no_ring : (ring : List RingEntry) → (ring_check ring).key_of id object ≡ None
  no_ring ring = rw is refl

  no_public : public_key_check.key_of id object ≡ None
  no_public = rw is refl

  no_rings : (rings : List (List RingEntry)) (place : ℕ) → key_from place (map ring_check rings) id object ≡ None
  no_rings [] place = refl
  no_rings (ring ∷ rings) place = rw (no_ring ring) (no_rings rings (suc place))

  no_keys : (asked : Bool) (place : ℕ) → key_from place (key_checks asked) id object ≡ None
  no_keys true place = rw no_public refl
  no_keys false place = refl

  none_own : (rings : List (List RingEntry)) (asked : Bool) → (panel_of (own_checks rings asked)).key_of id object ≡ None
  none_own rings asked =
      known_later id object (map ring_check rings) (key_checks asked) 0 (no_rings rings 0) ∙ no_keys asked _

pub no_identity_known : (rings : List (List RingEntry)) (asked : Bool) (id : List ℕ) (object : KeyObject)
    → object.scheme ≡ codes "Fulcio" → (panel_of (own_checks rings asked)).key_of id object ≡ None
no_identity_known rings asked id object is = none_own id object is rings asked

no_object : (b : Bool) (identity : Identity) → (b ≡ true → ⊥)
    → option_map number_of (if b then Some identity else None) ≡ None
no_object true identity none = absurd (none refl)
no_object false identity none = refl

pub no_own_known : (rings : List (List RingEntry)) (asked : Bool) (vouched : List Vouched) (id : List ℕ)
    (object : KeyObject) (n : KeyNumber) → (panel_of (own_checks rings asked)).key_of id object ≡ Some n
    → (vouched_check vouched).key_of id object ≡ None
no_own_known rings asked vouched id object n e =
    no_object (has_identity object) (record { name = object.identity; issuer = object.issuer })
    (λ has.
    let scheme = equal_bytes object.scheme (codes "Fulcio")
    (both (bytes_eq object.scheme (codes "Fulcio")) (is_short object.identity && is_short object.issuer) has).0 in
    let none = no_identity_known rings asked id object scheme in
    cc)
