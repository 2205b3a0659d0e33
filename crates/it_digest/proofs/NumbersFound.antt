-- What a table of the numbers of digits has for each.
use Rattle.std.proofs.Common.{◌≡◌, ℕ, zero, suc, ◌+◌, ◌<◌, ◌==◌, List, [], ◌∷◌, length, true}
use Rattle.std.proofs.Common.{slice_index_or, arith, ap, sym, ◌∙◌}
use Rattle.std.proofs.lemmas.Bool.{and_parts, eqb-true}
use Rattle.it_digest.specs.inside.DigitNumbers.{are_numbers, number}

numbers_from : (ns : List ℕ) (first i : ℕ) → are_numbers ns first ≡ true → i < length ns
    → slice_index_or ns i 0 ≡ number (first + i)
numbers_from [] first i e below = absurd (omega arith)
numbers_from (n ∷ ns) first zero e below =
    let parts = and_parts (n == number first) (are_numbers ns (suc first)) e in
    let here : first + 0 ≡ first = omega arith in
    eqb-true n (number first) parts.0 ∙ ap number (sym here)
numbers_from (n ∷ ns) first (suc i) e below =
    let parts = and_parts (n == number first) (are_numbers ns (suc first)) e in
    let there : suc first + i ≡ first + suc i = omega arith in
    numbers_from ns (suc first) i parts.1 (omega arith) ∙ ap number there

pub number_at : (ns : List ℕ) (digit : ℕ) → are_numbers ns 0 ≡ true → digit < length ns
    → slice_index_or ns digit 0 ≡ number digit
number_at ns digit e below =
    let same : 0 + digit ≡ digit = omega arith in
    numbers_from ns 0 digit e below ∙ ap number same
