-- The parts of a SubjectPublicKeyInfo, byte by byte.
use Rattle.std.specs.Prelude.{◌≡◌, ℕ, ◌+◌, ◌/◌, ◌%◌, ◌≤◌, List, [], ◌∷◌, ◌++◌, length}
use Rattle.it_rsa.specs.Info.{info_with, rsa_encryption}

-- the bytes are a SubjectPublicKeyInfo with these two numbers, in lengths that a key may have
pub record AreParts (info modulus exponent : List ℕ) : Type 0 where
  pub least : 256 ≤ length modulus
  pub most : length modulus ≤ 512
  pub some : 1 ≤ length exponent
  pub short : length exponent ≤ 4
  pub encoded : info ≡ info_with modulus exponent

-- a length in two bytes
abbrev pub high : ℕ → ℕ
high n = n / 256 % 256

abbrev pub low : ℕ → ℕ
low n = n % 256

-- what comes before a modulus of `size` bytes, where the exponent has `count` bytes
abbrev pub info_head : ℕ → ℕ → List ℕ
info_head size count =
    48 ∷ 130 ∷ high (size + count + 31) ∷ low (size + count + 31) ∷ rsa_encryption ++ 3 ∷ 130 ∷
    high (size + count + 12) ∷ low (size + count + 12) ∷ 0
    ∷ 48 ∷ 130 ∷ high (size + count + 7) ∷ low (size + count + 7) ∷ 2 ∷ 130 ∷ high (size + 1) ∷ low
    (size + 1) ∷ 0 ∷ []
