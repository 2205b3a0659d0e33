-- The curve P-256 (SP 800-186, section 3.2.1.3): y ^ 2 = x ^ 3 - 3 x + b.
use Rattle.std.specs.Prelude.{ℕ, Bool, nat_eq}
use Rattle.it_p256_field.specs.Prime.{plus_mod, minus_mod, times_mod}

-- b
abbrev pub curve_b : ℕ
curve_b = 41058363725152142129326129780047268409114441015993725554835256314039467401291

-- x ^ 3 - 3 x + b
unfoldable pub right_side : ℕ → ℕ
right_side x = plus_mod (times_mod x (minus_mod (times_mod x x) 3)) curve_b

-- whether the point with these coordinates lies on the curve
abbrev pub is_on_curve : ℕ → ℕ → Bool
is_on_curve x y = nat_eq (times_mod y y) (right_side x)
