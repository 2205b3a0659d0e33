-- The encoding EMSA-PSS with SHA-256, its mask generation function and a salt of 32 bytes (RFC
-- 8017, section 9.1.2).
use Rattle.std.specs.Prelude.{◌≡◌, ℕ, ◌-◌, ◌*◌, ◌%◌, ◌^◌, ◌<◌, ◌≤◌, List, [], ◌∷◌, ◌++◌, length}
use Rattle.std.specs.Prelude.{take, drop, replicate, slice_index}
use Rattle.sha2.specs.Sha256.{sha256}
use Rattle.it_rsa.specs.Mask.{mgf1, xored}

-- how many bits of the first byte an encoded message of `em_bits` bits uses
abbrev pub low_bits : List ℕ → ℕ → ℕ
low_bits em em_bits = 8 - (8 * length em - em_bits)

-- the lowest bits of the first byte, and the other bytes
unfoldable pub with_low_bits : ℕ → List ℕ → List ℕ
with_low_bits n [] = []
with_low_bits n (x ∷ xs) = x % 2 ^ n ∷ xs

-- the parts of an encoded message: DB under its mask, and H (step 5)
abbrev pub masked_of : List ℕ → List ℕ
masked_of em = take (length em - 33) em

abbrev pub hash_of : List ℕ → List ℕ
hash_of em = take 32 (drop (length em - 33) em)

-- DB, with the bits cleared that the encoded message has no room for (steps 7 to 9)
unfoldable pub data_of : List ℕ → ℕ → List ℕ
data_of em em_bits = with_low_bits (low_bits em em_bits)
    (xored (masked_of em) (mgf1 (hash_of em) (length em - 33)))

-- DB is zeros, a 1 and a salt of 32 bytes, with which the message's digest has the digest H (steps
-- 10 to 14)
pub record IsOpened (digest db hash : List ℕ) : Type 0 where
  pub zeros : (k : ℕ) → k < length db - 33 → slice_index db k ≡ 0
  pub one : slice_index db (length db - 33) ≡ 1
  pub agrees : sha256 (replicate 8 0 ++ digest ++ drop (length db - 32) db) ≡ hash

-- bytes encode the message of a digest in that many bits: EMSA-PSS-VERIFY says "consistent"
pub record IsEncoded (digest em : List ℕ) (em_bits : ℕ) : Type 0 where
  pub room : 66 ≤ length em
  pub trailer : slice_index em (length em - 1) ≡ 0xbc
  pub top_clear : slice_index em 0 < 2 ^ low_bits em em_bits
  pub opened : IsOpened digest (data_of em em_bits) (hash_of em)
