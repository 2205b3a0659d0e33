-- Tables of the numbers that bytes stand for as hexadecimal digits.
use Rattle.std.specs.Prelude.{ℕ, suc, ◌==◌, ◌&&◌, List, [], ◌∷◌, Bool, true, unwrap_or}
use Rattle.hex.specs.Hex.{hex_digit_value}

-- the number of a digit, or 16 where it is none
abbrev pub number : ℕ → ℕ
number digit = unwrap_or (hex_digit_value digit) 16

-- whether a table has the numbers of the bytes from this one on
abbrev pub are_numbers : List ℕ → ℕ → Bool
are_numbers [] first = true
are_numbers (n ∷ ns) first = (n == number first) && are_numbers ns (suc first)
