-- Decimal digits in pairs.
use Rattle.std.specs.Prelude.{◌≡◌, ℕ, ◌+◌, ◌/◌, ◌%◌, ◌<◌, List, [], ◌∷◌}

-- a number below a hundred, in two decimal digits
abbrev pub two_digits_of : ℕ → List ℕ
two_digits_of n = (48 + n / 10) ∷ (48 + n % 10) ∷ []

-- these two bytes are the digits of the number
abbrev pub AreTwoDigits : ℕ → ℕ → ℕ → Type 0
AreTwoDigits tens ones n = (n < 100) × (tens ≡ 48 + n / 10) × (ones ≡ 48 + n % 10)
