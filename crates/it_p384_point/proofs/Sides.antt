-- The right side of the curve's equation.
use Rattle.std.proofs.Common.{◌≡◌, ℕ, refl}
use Rattle.it_p384_field.specs.Prime.{plus_mod, minus_mod, times_mod}
use Rattle.it_p384_point.specs.Curve.{curve_b, right_side}

pub right_side_by : (x xx t d p b r : ℕ) → xx ≡ times_mod x x → t ≡ 3 → d ≡ minus_mod xx t → p ≡ times_mod x d → b ≡ curve_b
    → r ≡ plus_mod p b → r ≡ right_side x
unfolding right_side
right_side_by x xx t d p b r e1 e2 e3 e4 e5 e6 = rw (e6, e5, e4, e3, e2, e1) refl
