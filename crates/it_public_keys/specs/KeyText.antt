-- Which key objects describe a public key (in-toto 1.0 section 4.2; the forms are those of
-- in-toto's tools).
use Rattle.std.specs.Prelude.{ℕ, List, Bool, false, ◌&&◌, Option, Some, None, codes}
use Rattle.std.specs.Result.{result_ok}
use Rattle.std.specs.Str.{bytes_eq}
use Rattle.hex.specs.Hex.{decode_sized}
use Rattle.it_dsse.specs.declared.key_object.KeyObject.{KeyObject}
use Rattle.it_p256.specs.Key.{info_of as p256_info}
use Rattle.it_p384.specs.Key.{info_of as p384_info}
use Rattle.it_pem.specs.PublicKeyText.{info_in}
use Rattle.it_rsa.specs.Info.{info_of as rsa_info}
use Rattle.it_public_keys.specs.declared.key.Key.{Key}
use Rattle.it_public_keys.specs.declared.key.Key.TheVariants.{Ed25519, P256, P384, Rsa}

-- the bytes that were found are these
abbrev pub are_bytes : Option (List ℕ) → List ℕ → Bool
are_bytes None bytes = false
are_bytes (Some found) bytes = bytes_eq found bytes

-- the object has the scheme of the key's kind, and gives the key: an Ed25519 key as 64 hexadecimal
-- digits, in either case, and any other as a PEM text of its SubjectPublicKeyInfo
abbrev pub describes : KeyObject → Key → Bool
describes object (Ed25519 bytes) = bytes_eq object.scheme (codes "ed25519")
    && are_bytes (result_ok (decode_sized object.public 32)) bytes
describes object (P256 key) = bytes_eq object.scheme (codes "ecdsa-sha2-nistp256")
    && are_bytes (info_in object.public) (p256_info key)
describes object (P384 key) = bytes_eq object.scheme (codes "ecdsa-sha2-nistp384")
    && are_bytes (info_in object.public) (p384_info key)
describes object (Rsa key) = bytes_eq object.scheme (codes "rsassa-pss-sha256")
    && are_bytes (info_in object.public) (rsa_info key)
