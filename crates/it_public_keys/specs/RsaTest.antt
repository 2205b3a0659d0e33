-- Whether an RSASSA-PSS signature is valid, as a test (RFC 8017, section 8.1.2).
use Rattle.std.specs.Prelude.{ℕ, zero, suc, ◌-◌, ◌^◌, List, ◌++◌, Bool, true, ◌&&◌, nat_eq, nat_lt}
use Rattle.std.specs.Prelude.{nat_le, length, drop, replicate, slice_index}
use Rattle.std.specs.Str.{bytes_eq}
use Rattle.sha2.specs.Sha256.{sha256}
use Rattle.it_numbers.specs.Bytes.{big, big_bytes}
use Rattle.it_rsa.specs.Encoding.{data_of, hash_of, low_bits}
use Rattle.it_rsa.specs.Key.{Key}
use Rattle.it_rsa.specs.Signature.{em_bits, em_length, representative}

-- the first so many bytes are zeros
unfoldable pub are_zeros : List ℕ → ℕ → Bool
are_zeros bytes zero = true
are_zeros bytes (suc n) = nat_eq (slice_index bytes n) 0 && are_zeros bytes n

-- DB is zeros, a 1 and a salt, with which the message's digest hashes to H
unfoldable pub is_opened : List ℕ → List ℕ → List ℕ → Bool
is_opened digest db hash = are_zeros db (length db - 33)
    && (nat_eq (slice_index db (length db - 33)) 1
    && bytes_eq (sha256 (replicate 8 0 ++ digest ++ drop (length db - 32) db)) hash)

-- the bytes encode a message's digest in that many bits
unfoldable pub is_encoded : List ℕ → List ℕ → ℕ → Bool
is_encoded digest em bits = nat_le 66 (length em)
    && (nat_eq (slice_index em (length em - 1)) 0xbc
    && (nat_lt (slice_index em 0) (2 ^ low_bits em bits)
    && is_opened digest (data_of em bits) (hash_of em)))

-- it is the key's signature of a message of that digest
unfoldable pub is_rsa_signature : Key → List ℕ → List ℕ → Bool
is_rsa_signature key digest signature = nat_eq (length signature) (length key.modulus)
    && (nat_lt (big signature) (big key.modulus)
    && is_encoded digest (big_bytes (em_length key) (representative key signature)) (em_bits key))
