-- Twice a square, as the formula for a double has it.
use Rattle.std.proofs.Common.{◌≡◌, ℕ, ◌+◌, ◌*◌, ◌%◌, sym, ap, ◌∙◌, arith}
use native.Mathlib.Nat.{mod-add-mod, add-mod-mod}
use Rattle.std.proofs.lemmas.Nat.{mul-mod_first}
use Rattle.it_ed_field.specs.Prime.{prime, plus_mod, times_mod}

pub twice_square : (z square twice : ℕ) → square ≡ times_mod z z → twice ≡ plus_mod square square
    → twice ≡ times_mod (plus_mod z z) z
twice_square z square twice e f =
    let n = z * z in
    let whole : n + n ≡ (z + z) * z = omega arith in
    f ∙ ap (λ (k : ℕ). (k + k) % prime) e ∙ mod-add-mod n prime (n % prime) ∙ add-mod-mod n n prime
    ∙ ap (λ (k : ℕ). k % prime) whole ∙ sym (mul-mod_first (z + z) z prime)
