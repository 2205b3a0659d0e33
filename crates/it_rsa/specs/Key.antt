-- Public keys (RFC 8017, section 3.1).
use Rattle.std.specs.Prelude.{◌≡◌, ℕ, ◌%◌, ◌^◌, ◌<◌, ◌≤◌, List, length, slice_index}
use Rattle.it_numbers.specs.Bytes.{big}

-- the modulus in its bytes, highest first, and the exponent
pub record Key : Type 0 where
  pub modulus : List ℕ
  pub exponent : ℕ

-- this profile's choice: the first bit of the modulus is set, so that its length in bits is 8 times
-- that in bytes; it has 2,048 to 4,096 bits and is odd, and so is the exponent, which is at least 3
-- and below 2 ^ 31
pub record IsKey (key : Key) : Type 0 where
  pub full : 128 ≤ slice_index key.modulus 0
  pub least : 256 ≤ length key.modulus
  pub most : length key.modulus ≤ 512
  pub odd : big key.modulus % 2 ≡ 1
  pub exponent_odd : key.exponent % 2 ≡ 1
  pub exponent_least : 3 ≤ key.exponent
  pub exponent_most : key.exponent < 2 ^ 31
