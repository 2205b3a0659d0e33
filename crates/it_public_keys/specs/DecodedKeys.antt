-- The key that bytes encode, and the key that an object describes, as functions.
use Rattle.std.specs.Prelude.{ℕ, ◌+◌, ◌-◌, ◌*◌, ◌%◌, ◌^◌, List, Bool, false, not, ◌&&◌, nat_eq}
use Rattle.std.specs.Prelude.{nat_le, nat_lt, length, take, drop, slice_index, codes}
use Rattle.std.specs.Prelude.{if◌then◌else◌, Option, Some, None, option_and_then, option_map}
use Rattle.std.specs.Prelude.{unwrap_or}
use Rattle.std.specs.Result.{result_ok}
use Rattle.std.specs.Str.{bytes_eq}
use Rattle.hex.specs.Hex.{decode_sized}
use Rattle.it_numbers.specs.Bytes.{big}
use Rattle.it_dsse.specs.declared.key_object.KeyObject.{KeyObject}
use Rattle.it_ed_point.specs.Encoding.{decoded}
use Rattle.it_ed25519.specs.PublicKey.{is_small_order}
use Rattle.it_p256_field.specs.Prime.{prime}
use Rattle.it_p256_point.specs.Curve.{is_on_curve}
use Rattle.it_p256.specs.Key.{Key as P256Key, info_of as p256_info}
use Rattle.it_p384_field.specs.Prime.{prime as p384_prime}
use Rattle.it_p384_point.specs.Curve.{is_on_curve as is_on_p384}
use Rattle.it_p384.specs.Key.{Key as P384Key, info_of as p384_info}
use Rattle.it_pem.specs.PublicKeyText.{info_in}
use Rattle.it_rsa.specs.Info.{info_of as rsa_info}
use Rattle.it_rsa.specs.Key.{Key as RsaKey}
use Rattle.it_public_keys.specs.declared.key.Key.{Key}
use Rattle.it_public_keys.specs.declared.key.Key.TheVariants.{Ed25519, P256, P384, Rsa}

-- the key, if a test holds
abbrev pub key_if : Bool → Key → Option Key
key_if test key = if test then Some key else None

-- 32 bytes that decode to a point (RFC 8032, section 5.1.3), which is not of small order
unfoldable pub is_ed25519_key : List ℕ → Bool
is_ed25519_key bytes = nat_eq (length bytes) 32
    && unwrap_or (option_map (λ point. not (is_small_order point)) (decoded bytes)) false

abbrev pub ed25519_key : List ℕ → Option Key
ed25519_key bytes = key_if (is_ed25519_key bytes) (Ed25519 bytes)

-- where the SubjectPublicKeyInfo of a P-256 key has its coordinates (RFC 5480, section 2; SEC 1,
-- section 2.3.3)
unfoldable pub coordinates_in : List ℕ → P256Key
coordinates_in info = record { x = big (take 32 (drop 27 info)); y = big (drop 59 info) }

-- it is that of a key with these (SP 800-56A, section 5.6.2.3.3)
unfoldable pub is_p256_key : List ℕ → P256Key → Bool
is_p256_key info key = bytes_eq info (p256_info key)
    && (nat_lt key.x prime && (nat_lt key.y prime && is_on_curve key.x key.y))

abbrev pub p256_key : List ℕ → Option Key
p256_key info = key_if (is_p256_key info (coordinates_in info)) (P256 (coordinates_in info))

-- the same for P-384, whose curve has a shorter identifier
unfoldable pub p384_coordinates_in : List ℕ → P384Key
p384_coordinates_in info = record { x = big (take 48 (drop 24 info)); y = big (drop 72 info) }

unfoldable pub is_p384_key : List ℕ → P384Key → Bool
is_p384_key info key = bytes_eq info (p384_info key)
    && (nat_lt key.x p384_prime && (nat_lt key.y p384_prime && is_on_p384 key.x key.y))

abbrev pub p384_key : List ℕ → Option Key
p384_key info =
    key_if (is_p384_key info (p384_coordinates_in info)) (P384 (p384_coordinates_in info))

-- how many bytes the modulus has in the SubjectPublicKeyInfo of an RSA key (RFC 3279, section
-- 2.3.1): the length that stands there counts a 0 before it
abbrev pub modulus_length : List ℕ → ℕ
modulus_length info = 256 * slice_index info 30 + slice_index info 31 - 1

-- the modulus and the exponent there, which has a tag and a length of its own
unfoldable pub numbers_in : List ℕ → RsaKey
numbers_in info = record {
  modulus = take (modulus_length info) (drop 33 info);
  exponent = big (drop 2 (drop (modulus_length info) (drop 33 info)));
}

-- it is that of a key with these
unfoldable pub is_rsa_key : List ℕ → RsaKey → Bool
is_rsa_key info key = bytes_eq info (rsa_info key)
    && (nat_le 128 (slice_index key.modulus 0) && (nat_le 256 (length key.modulus)
    && (nat_le (length key.modulus) 512 && (nat_eq (big key.modulus % 2) 1
    && (nat_eq (key.exponent % 2) 1 && (nat_le 3 key.exponent && nat_lt key.exponent (2 ^ 31)))))))

abbrev pub rsa_key : List ℕ → Option Key
rsa_key info = key_if (is_rsa_key info (numbers_in info)) (Rsa (numbers_in info))

-- the key that a public part gives by its scheme, if it gives one (in-toto 1.0 section 4.2)
abbrev pub key_described : List ℕ → List ℕ → Option Key
key_described scheme public = if bytes_eq scheme (codes "ed25519")
    then option_and_then ed25519_key (result_ok (decode_sized public 32))
    else (if bytes_eq scheme (codes "ecdsa-sha2-nistp256")
    then option_and_then p256_key (info_in public)
    else (if bytes_eq scheme (codes "ecdsa-sha2-nistp384")
    then option_and_then p384_key (info_in public)
    else (if bytes_eq scheme (codes "rsassa-pss-sha256")
    then option_and_then rsa_key (info_in public) else None)))

-- the key that an object describes
abbrev pub key_in : KeyObject → Option Key
key_in object = key_described object.scheme object.public
