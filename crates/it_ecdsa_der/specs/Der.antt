-- The strict encoding (DER, X.690) of ECDSA-Sig-Value, a SEQUENCE of two INTEGERs (RFC 3279,
-- section 2.2.3). No length is above 127 here, since two numbers below 2 ^ 384 take at most 104
-- bytes, and two below 2 ^ 256 at most 70: so a length is one byte.
use Rattle.std.specs.Prelude.{◌≡◌, ℕ, ◌+◌, ◌-◌, ◌<◌, ◌≤◌, List, length, take, drop, slice_index}
use Rattle.it_numbers.specs.Bytes.{big}

-- an INTEGER from one place to another: the tag 2, the length in one byte, and the number n, not
-- negative, in as few bytes as hold it (X.690, sections 8.3 and 10.1)
pub record IsInteger (bytes : List ℕ) (start end n : ℕ) : Type 0 where
  pub tag : slice_index bytes start ≡ 2
  pub short : slice_index bytes (start + 1) < 128
  pub end_is : end ≡ start + 2 + slice_index bytes (start + 1)
  pub inside : end ≤ length bytes
  pub some : start + 2 < end
  pub not_negative : slice_index bytes (start + 2) < 128
  pub shortest : start + 3 < end → slice_index bytes (start + 2) ≡ 0 → 128 ≤ slice_index bytes
      (start + 3)
  pub value : big (take (end - (start + 2)) (drop (start + 2) bytes)) ≡ n

-- a SEQUENCE, the tag 48 and the length in one byte, of two INTEGERs and nothing else
pub record IsSignatureValue (bytes : List ℕ) (r s : ℕ) : Type 0 where
  pub tag : slice_index bytes 0 ≡ 48
  pub short : slice_index bytes 1 < 128
  pub whole : length bytes ≡ 2 + slice_index bytes 1
  pub middle : ℕ
  pub first : IsInteger bytes 2 middle r
  pub second : IsInteger bytes middle (length bytes) s
