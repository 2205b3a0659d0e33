-- Signatures of RSASSA-PSS (RFC 8017, section 8.1.2) with SHA-256, MGF1 with SHA-256 and a salt of
-- any length.
use Rattle.std.specs.Prelude.{◌≡◌, ℕ, ◌+◌, ◌-◌, ◌^◌, ◌<◌, ◌≤◌, List, ◌++◌, drop, length, replicate}
use Rattle.std.specs.Prelude.{slice_index}
use Rattle.sha2.specs.Sha256.{sha256}
use Rattle.it_numbers.specs.Bytes.{big, big_bytes}
use Rattle.it_rsa.specs.Encoding.{data_of, hash_of, low_bits}
use Rattle.it_rsa.specs.Key.{Key}
use Rattle.it_rsa.specs.Signature.{em_bits, em_length, representative}

-- DB is zeros, a 1 and a salt of that length, with which the message's digest has the digest H
-- (section 9.1.2, steps 10 to 14)
pub record IsOpenedOfSalt (salt : ℕ) (digest db hash : List ℕ) : Type 0 where
  pub zeros : (k : ℕ) → k < length db - (salt + 1) → slice_index db k ≡ 0
  pub one : slice_index db (length db - (salt + 1)) ≡ 1
  pub agrees : sha256 (replicate 8 0 ++ digest ++ drop (length db - salt) db) ≡ hash

-- bytes encode the message of a digest in that many bits, with a salt of that length (section
-- 9.1.2)
pub record IsEncodedOfSalt (salt : ℕ) (digest em : List ℕ) (bits : ℕ) : Type 0 where
  pub room : salt + 34 ≤ length em
  pub trailer : slice_index em (length em - 1) ≡ 0xbc
  pub top_clear : slice_index em 0 < 2 ^ low_bits em bits
  pub opened : IsOpenedOfSalt salt digest (data_of em bits) (hash_of em)

-- the key's signature of a message, with a salt of that length
pub record IsPssOfSalt (key : Key) (message signature : List ℕ) (salt : ℕ) : Type 0 where
  pub long : length signature ≡ length key.modulus
  pub below : big signature < big key.modulus
  pub encoded : IsEncodedOfSalt salt (sha256 message)
      (big_bytes (em_length key) (representative key signature)) (em_bits key)
