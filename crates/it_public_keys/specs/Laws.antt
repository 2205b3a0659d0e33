-- What is shown of these definitions.
use Rattle.std.specs.Prelude.{◌≡◌, ◌↔◌, ◌⊎◌, ℕ, List, None, IsTrue, codes}
use Rattle.it_dsse.specs.Ring.{ring_check}
use Rattle.it_dsse.specs.declared.key_object.KeyObject.{KeyObject}
use Rattle.it_dsse.specs.declared.ring_entry.RingEntry.{RingEntry}
use Rattle.it_public_keys.specs.Keys.{IsSignature}
use Rattle.it_public_keys.specs.NamedKeys.{public_key_check}
use Rattle.it_public_keys.specs.Validity.{is_signature_of}
use Rattle.it_public_keys.specs.declared.key.Key.{Key}

-- the test is true exactly of signatures
abbrev pub TestIsSignature : Type 0
TestIsSignature =
    (key : Key) (message signature : List ℕ)
    → IsTrue (is_signature_of key message signature) ↔ IsSignature key message signature

-- one of the schemes of public keys
abbrev pub IsPublicScheme : List ℕ → Type 0
IsPublicScheme scheme = (scheme ≡ codes "ed25519") ⊎ (scheme ≡ codes "ecdsa-sha2-nistp256")
    ⊎ (scheme ≡ codes "ecdsa-sha2-nistp384") ⊎ (scheme ≡ codes "rsassa-pss-sha256")

-- no ring knows an object of a scheme of public keys
abbrev pub NoRingKnowsPublicKeys : Type 0
NoRingKnowsPublicKeys =
    (ring : List RingEntry) (id : List ℕ) (object : KeyObject)
    → IsPublicScheme object.scheme → (ring_check ring).key_of id object ≡ None

-- and the check of public keys knows no object of a ring's scheme, so their order in a panel does
-- not matter
abbrev pub PublicKeyCheckKnowsNoSecrets : Type 0
PublicKeyCheckKnowsNoSecrets =
    (id : List ℕ) (object : KeyObject)
    → object.scheme ≡ codes "hmac-sha256" → public_key_check.key_of id object ≡ None
