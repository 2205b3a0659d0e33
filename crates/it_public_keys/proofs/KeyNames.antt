-- Names of keys.
use Rattle.std.proofs.Common.{◌≡◌, ◌+◌, ◌≤◌, ◌++◌, arith, ap, length, length-append, refl}
use Rattle.it_numbers.specs.Bytes.{big_bytes}
use Rattle.it_p256.specs.Key.{Key as P256Key, info_of as p256_info, info_prefix}
use Rattle.it_p256.proofs.Infos.{both_long, same_key as same_p256}
use Rattle.it_p384.specs.Key.{Key as P384Key, info_of as p384_info, info_prefix as p384_prefix}
use Rattle.it_p384.proofs.Infos.{both_long as p384_long, same_key as same_p384}
use Rattle.it_rsa.specs.Info.{exponent_bytes, info_of as rsa_info}
use Rattle.it_rsa.specs.Key.{Key as RsaKey, IsKey as IsRsaKey}
use Rattle.it_rsa.proofs.Infos.{read_of}
use Rattle.it_rsa.proofs.Keys.{parts_of_key, same_key as same_rsa}
use Rattle.it_public_keys.specs.KeyNames.{key_name}
use Rattle.it_public_keys.specs.Keys.{IsKey}
use Rattle.it_public_keys.specs.declared.key.Key.{Key}
use Rattle.it_public_keys.specs.declared.key.Key.TheVariants.{Ed25519, P256, P384, Rsa}
use Rattle.it_public_keys.proofs.Names.{name_long, name_tells}

-- no key is too long for a name
pub short_p256 : (key : P256Key) → length (p256_info key) ≤ 557
short_p256 key =
    let numbers : length (big_bytes 32 key.x ++ big_bytes 32 key.y) ≡ 64 = both_long key in
    let whole : length (p256_info key)
    ≡ length info_prefix + length (big_bytes 32 key.x ++ big_bytes 32 key.y) =
    length-append info_prefix (big_bytes 32 key.x ++ big_bytes 32 key.y) in
    let prefix : length info_prefix ≡ 27 = refl in
    omega arith

pub short_p384 : (key : P384Key) → length (p384_info key) ≤ 557
short_p384 key =
    let numbers : length (big_bytes 48 key.x ++ big_bytes 48 key.y) ≡ 96 = p384_long key in
    let whole : length (p384_info key)
    ≡ length p384_prefix + length (big_bytes 48 key.x ++ big_bytes 48 key.y) =
    length-append p384_prefix (big_bytes 48 key.x ++ big_bytes 48 key.y) in
    let prefix : length p384_prefix ≡ 24 = refl in
    omega arith

pub short_rsa : (key : RsaKey) → IsRsaKey key → length (rsa_info key) ≤ 557
short_rsa key is =
    let parts = parts_of_key (rsa_info key) key is refl in
    let size : length (rsa_info key) ≡ 35 + length key.modulus + length (exponent_bytes key.exponent) =
    (read_of (rsa_info key) key.modulus (exponent_bytes key.exponent) parts).size in
    let most : length key.modulus ≤ 512 = parts.most in
    let few : length (exponent_bytes key.exponent) ≤ 4 = parts.short in
    omega arith

pub key_name_long : (key : Key) → IsKey key → length (key_name key) ≡ 560
key_name_long (Ed25519 bytes) is =
    let long : length bytes ≡ 32 = is.long in name_long 1 bytes (omega arith)
key_name_long (P256 key) is = name_long 2 (p256_info key) (short_p256 key)
key_name_long (P384 key) is = name_long 4 (p384_info key) (short_p384 key)
key_name_long (Rsa key) is = name_long 3 (rsa_info key) (short_rsa key is)

-- a name is that of one key
pub names_tell : (one other : Key) → IsKey one → IsKey other → key_name one ≡ key_name other
    → one ≡ other
names_tell (Ed25519 bytes) (Ed25519 others) is good e =
    ap (λ b. Ed25519 b) (name_tells 1 1 bytes others e).1
names_tell (Ed25519 bytes) (P256 key) is good e =
    let kinds = (name_tells 1 2 bytes (p256_info key) e).0 in
    absurd (omega (arith, kinds))
names_tell (Ed25519 bytes) (P384 key) is good e =
    let kinds = (name_tells 1 4 bytes (p384_info key) e).0 in
    absurd (omega (arith, kinds))
names_tell (Ed25519 bytes) (Rsa key) is good e =
    let kinds = (name_tells 1 3 bytes (rsa_info key) e).0 in
    absurd (omega (arith, kinds))
names_tell (P256 key) (Ed25519 bytes) is good e =
    let kinds = (name_tells 2 1 (p256_info key) bytes e).0 in
    absurd (omega (arith, kinds))
names_tell (P256 key) (P256 other) is good e =
    ap (λ k. P256 k)
    (same_p256 key other is good (name_tells 2 2 (p256_info key) (p256_info other) e).1)
names_tell (P256 key) (P384 other) is good e =
    let kinds = (name_tells 2 4 (p256_info key) (p384_info other) e).0 in
    absurd (omega (arith, kinds))
names_tell (P256 key) (Rsa other) is good e =
    let kinds = (name_tells 2 3 (p256_info key) (rsa_info other) e).0 in
    absurd (omega (arith, kinds))
names_tell (P384 key) (Ed25519 bytes) is good e =
    let kinds = (name_tells 4 1 (p384_info key) bytes e).0 in
    absurd (omega (arith, kinds))
names_tell (P384 key) (P256 other) is good e =
    let kinds = (name_tells 4 2 (p384_info key) (p256_info other) e).0 in
    absurd (omega (arith, kinds))
names_tell (P384 key) (P384 other) is good e =
    ap (λ k. P384 k)
    (same_p384 key other is good (name_tells 4 4 (p384_info key) (p384_info other) e).1)
names_tell (P384 key) (Rsa other) is good e =
    let kinds = (name_tells 4 3 (p384_info key) (rsa_info other) e).0 in
    absurd (omega (arith, kinds))
names_tell (Rsa key) (Ed25519 bytes) is good e =
    let kinds = (name_tells 3 1 (rsa_info key) bytes e).0 in
    absurd (omega (arith, kinds))
names_tell (Rsa key) (P256 other) is good e =
    let kinds = (name_tells 3 2 (rsa_info key) (p256_info other) e).0 in
    absurd (omega (arith, kinds))
names_tell (Rsa key) (P384 other) is good e =
    let kinds = (name_tells 3 4 (rsa_info key) (p384_info other) e).0 in
    absurd (omega (arith, kinds))
names_tell (Rsa key) (Rsa other) is good e =
    ap (λ k. Rsa k)
    (same_rsa key other is good (name_tells 3 3 (rsa_info key) (rsa_info other) e).1)
