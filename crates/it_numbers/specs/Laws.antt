-- What is true of every number and its bytes.
use Rattle.std.specs.Prelude.{◌≡◌, ℕ, ◌*◌, ◌^◌, ◌<◌, List, All, length}
use Rattle.it_numbers.specs.Bytes.{little, little_bytes, big, big_bytes}

-- a number that fits is the number of its bytes, lowest first
abbrev pub LittleOfBytes : Type 0
LittleOfBytes = (count n : ℕ) → n < 2 ^ (8 * count) → little (little_bytes count n) ≡ n

-- bytes are those of their number, lowest first
abbrev pub BytesOfLittle : Type 0
BytesOfLittle = (bytes : List ℕ) → All (λ b. b < 256) bytes → little_bytes (length bytes)
    (little bytes) ≡ bytes

-- a number that fits is the number of its bytes, highest first
abbrev pub BigOfBytes : Type 0
BigOfBytes = (count n : ℕ) → n < 2 ^ (8 * count) → big (big_bytes count n) ≡ n

-- bytes are those of their number, highest first
abbrev pub BytesOfBig : Type 0
BytesOfBig = (bytes : List ℕ) → All (λ b. b < 256) bytes → big_bytes (length bytes) (big bytes)
    ≡ bytes
