-- Names of keys: bytes of one length, different for any two keys (this profile's choice).
use Rattle.std.specs.Prelude.{ℕ, ◌/◌, ◌%◌, ◌<◌, List, ◌∷◌, ◌++◌, length, drop, replicate}
use Rattle.std.specs.Prelude.{slice_index}
use Rattle.it_p256.specs.Key.{info_of as p256_info}
use Rattle.it_p384.specs.Key.{info_of as p384_info}
use Rattle.it_rsa.specs.Info.{info_of as rsa_info}
use Rattle.it_public_keys.specs.declared.key.Key.{Key}
use Rattle.it_public_keys.specs.declared.key.Key.TheVariants.{Ed25519, P256, P384, Rsa}

-- what follows the bytes, as far as there is room
unfoldable pub zeros : List ℕ
zeros = replicate 557 0

-- a kind, a two-byte count of the bytes, the bytes, and zeros up to 560
unfoldable pub name : ℕ → List ℕ → List ℕ
name kind bytes = kind ∷ length bytes / 256 ∷ length bytes % 256
    ∷ (bytes ++ drop (length bytes) zeros)

-- the name of a key: of its bytes, or of its SubjectPublicKeyInfo
abbrev pub key_name : Key → List ℕ
key_name (Ed25519 bytes) = name 1 bytes
key_name (P256 key) = name 2 (p256_info key)
key_name (Rsa key) = name 3 (rsa_info key)
key_name (P384 key) = name 4 (p384_info key)

-- the key is made of bytes, and so is its name
abbrev pub IsOfBytes : Key → Type 0
IsOfBytes key = (k : ℕ) → slice_index (key_name key) k < 256
