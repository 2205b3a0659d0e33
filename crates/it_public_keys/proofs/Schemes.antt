-- No object is of a ring's scheme and of one of public keys.
use Rattle.std.proofs.Common.{◌≡◌, ℕ, List, None, codes, inl, inr, refl}
use Rattle.it_dsse.specs.Ring.{ring_check}
use Rattle.it_dsse.specs.declared.key_object.KeyObject.{KeyObject}
use Rattle.it_dsse.specs.declared.ring_entry.RingEntry.{RingEntry}
use Rattle.it_public_keys.specs.Laws.{IsPublicScheme}
use Rattle.it_public_keys.specs.NamedKeys.{public_key_check}

pub no_ring_knows : (ring : List RingEntry) (id : List ℕ) (object : KeyObject)
    → IsPublicScheme object.scheme → (ring_check ring).key_of id object ≡ None
no_ring_knows ring id object (inl is) = rw is refl
no_ring_knows ring id object (inr (inl is)) = rw is refl
no_ring_knows ring id object (inr (inr (inl is))) = rw is refl
no_ring_knows ring id object (inr (inr (inr is))) = rw is refl

pub no_secret_known : (id : List ℕ) (object : KeyObject) → object.scheme ≡ codes "hmac-sha256"
    → public_key_check.key_of id object ≡ None
no_secret_known id object is = rw is refl
