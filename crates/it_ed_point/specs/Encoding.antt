-- The 32 bytes of points (RFC 8032, sections 5.1.2 and 5.1.3).
use Rattle.std.specs.Prelude.{ℕ, ◌+◌, ◌-◌, ◌*◌, ◌/◌, ◌%◌, ◌^◌, Bool, ◌&&◌, nat_eq, if◌then◌else◌}
use Rattle.std.specs.Prelude.{Option, Some, None, List}
use Rattle.std.specs.Option.{option_and_then}
use Rattle.it_numbers.specs.Bytes.{little, little_bytes}
use Rattle.it_numbers.specs.Modular.{number_below, power_mod}
use Rattle.it_ed_field.specs.Prime.{prime, plus_mod, minus_mod, times_mod}
use Rattle.it_ed_point.specs.declared.point.Point.{Point}
use Rattle.it_ed_point.specs.Curve.{curve_d, root_of_minus_one, affine}

-- the bytes of a point: those of y, lowest first, and as their highest bit whether x is odd
-- (section 5.1.2). The inverse of a number z is its power z ^ (prime - 2)
unfoldable pub encoding_of : Point → List ℕ
encoding_of p =
    let inverse = power_mod p.z (prime - 2) prime in
    let x = times_mod p.x inverse in
    let y = times_mod p.y inverse in
    little_bytes 32 (y + 2 ^ 255 * (x % 2))

-- a square root of u / v or of its opposite, if there is one: u v ^ 3 (u v ^ 7) ^ ((prime - 5) / 8)
-- (section 5.1.3, step 2)
unfoldable pub candidate_root : ℕ → ℕ → ℕ
candidate_root u v =
    let v3 = times_mod (times_mod v v) v in
    let v7 = times_mod (times_mod v3 v3) v in
    times_mod (times_mod u v3) (power_mod (times_mod u v7) ((prime - 5) / 8) prime)

-- the square root that the candidate x gives, if any, judged by v x ^ 2 (step 3)
abbrev pub root_told : ℕ → ℕ → ℕ → Option ℕ
root_told u square x =
    if nat_eq square u then Some x
    else (if nat_eq square (minus_mod 0 u) then Some (times_mod x root_of_minus_one) else None)

-- a square root of u / v, if there is one
unfoldable pub root_of_ratio : ℕ → ℕ → Option ℕ
root_of_ratio u v = let x = candidate_root u v in root_told u (times_mod v (times_mod x x)) x

-- 0 is its own opposite, and so is never odd
abbrev pub is_odd_zero : ℕ → ℕ → Bool
is_odd_zero x sign = nat_eq x 0 && nat_eq sign 1

-- x if its parity is the sign, and otherwise its opposite (step 4)
abbrev pub signed : ℕ → ℕ → ℕ
signed x sign = if nat_eq (x % 2) sign then x else minus_mod 0 x

-- the point with that x or its opposite, unless x is 0 and the sign is 1
unfoldable pub signed_point : ℕ → ℕ → ℕ → Option Point
signed_point x y sign = if is_odd_zero x sign then None else Some (affine (signed x sign) y)

-- the point with a y below the prime: x ^ 2 is (y ^ 2 - 1) / (d y ^ 2 + 1)
unfoldable pub point_at : ℕ → ℕ → Option Point
point_at y sign =
    let square = times_mod y y in
    option_and_then (λ x. signed_point x y sign)
    (root_of_ratio (minus_mod square 1) (plus_mod (times_mod curve_d square) 1))

-- the point that 32 bytes encode: without the highest bit they are y, which must be below the
-- prime, and that bit is the sign (step 1)
unfoldable pub decoded : List ℕ → Option Point
decoded bytes = option_and_then (λ y. point_at y (little bytes / 2 ^ 255 % 2))
    (number_below prime (little bytes % 2 ^ 255))
