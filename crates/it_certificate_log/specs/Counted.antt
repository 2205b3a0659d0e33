-- Bytes that come after how many they are (RFC 5246, section 4.3: vectors of at most 2 ^ 16 - 1
-- bytes, as RFC 6962 has them).
use Rattle.std.specs.Prelude.{ℕ, ◌/◌, ◌%◌, List, [], ◌∷◌, ◌++◌, length}

-- a number below 2 ^ 16, highest byte first
abbrev pub two_bytes : ℕ → List ℕ
two_bytes n = (n / 256) ∷ (n % 256) ∷ []

-- bytes after their length
abbrev pub counted : List ℕ → List ℕ
counted bytes = two_bytes (length bytes) ++ bytes
