-- The curve P-384 (SP 800-186, section 3.2.1.4): y ^ 2 = x ^ 3 - 3 x + b.
use Rattle.std.specs.Prelude.{ℕ, Bool, nat_eq}
use Rattle.it_p384_field.specs.Prime.{plus_mod, minus_mod, times_mod}

-- b
abbrev pub curve_b : ℕ
curve_b =
    27580193559959705877849011840389048093056905856361568521428707301988689241309860865136260764883745107765439761230575

-- x ^ 3 - 3 x + b
unfoldable pub right_side : ℕ → ℕ
right_side x = plus_mod (times_mod x (minus_mod (times_mod x x) 3)) curve_b

-- whether the point with these coordinates lies on the curve
abbrev pub is_on_curve : ℕ → ℕ → Bool
is_on_curve x y = nat_eq (times_mod y y) (right_side x)
