-- The curve edwards25519 (RFC 8032, section 5.1): -x ^ 2 + y ^ 2 = 1 + d x ^ 2 y ^ 2, in the
-- extended coordinates of section 5.1.4, in which a point (x, y) is (X, Y, Z, T) with x = X / Z, y
-- = Y / Z and x y = T / Z.
use Rattle.std.specs.Prelude.{◌≡◌, ℕ, zero, suc, ◌+◌, ◌*◌, ◌/◌, ◌%◌, Bool, ◌&&◌, nat_eq}
use Rattle.std.specs.Prelude.{if◌then◌else◌, refl}
use Rattle.it_numbers.specs.Modular.{is_odd}
use Rattle.it_ed_field.specs.Prime.{prime, plus_mod, minus_mod, times_mod}
use Rattle.it_ed_point.specs.declared.point.Point.{Point}

-- d, which is -121665 / 121666
abbrev pub curve_d : ℕ
curve_d = 37095705934669439343138083508754565189542113879843219016388785533085940283555

curve_d-is : (121666 * curve_d + 121665) % prime ≡ 0
curve_d-is = refl

-- a square root of -1, which is 2 ^ ((prime - 1) / 4)
abbrev pub root_of_minus_one : ℕ
root_of_minus_one = 19681161376707505956807079304988542015446066515923890162744021073123829784752

root_of_minus_one-is : (root_of_minus_one * root_of_minus_one + 1) % prime ≡ 0
root_of_minus_one-is = refl

-- the neutral point (0, 1)
abbrev pub neutral : Point
neutral = record { x = 0; y = 1; z = 1; t = 0 }

-- the coordinates of the base point B
abbrev pub base_x : ℕ
base_x = 15112221349535400772501151409588531511454012693041857206046113283949847762202

abbrev pub base_y : ℕ
base_y = 46316835694926478169428394003475163141307993866256225615783033603165251855960

base_y-is : (5 * base_y) % prime ≡ 4
base_y-is = refl

base-on_curve : (base_y * base_y) % prime ≡ (base_x * base_x + 1 + curve_d
    * (base_x * base_x * (base_y * base_y))) % prime
base-on_curve = refl

-- the point with these coordinates
abbrev pub affine : ℕ → ℕ → Point
affine x y = record { x = x; y = y; z = 1; t = times_mod x y }

-- the base point B
abbrev pub base : Point
base = affine base_x base_y

-- the sum of two points (section 5.1.4)
unfoldable pub sum_of : Point → Point → Point
sum_of p q =
    let a = times_mod (minus_mod p.y p.x) (minus_mod q.y q.x) in
    let b = times_mod (plus_mod p.y p.x) (plus_mod q.y q.x) in
    let c = times_mod (times_mod p.t (plus_mod curve_d curve_d)) q.t in
    let d = times_mod (plus_mod p.z p.z) q.z in
    let e = minus_mod b a in
    let f = minus_mod d c in
    let g = plus_mod d c in
    let h = plus_mod b a in
    record { x = times_mod e f; y = times_mod g h; z = times_mod f g; t = times_mod e h }

-- the sum of a point and itself (section 5.1.4)
unfoldable pub double_of : Point → Point
double_of p =
    let a = times_mod p.x p.x in
    let b = times_mod p.y p.y in
    let c = times_mod (plus_mod p.z p.z) p.z in
    let h = plus_mod a b in
    let s = plus_mod p.x p.y in
    let e = minus_mod h (times_mod s s) in
    let g = minus_mod a b in
    let f = plus_mod c g in
    record { x = times_mod e f; y = times_mod g h; z = times_mod f g; t = times_mod e h }

-- the point with the opposite x
abbrev pub opposite_of : Point → Point
opposite_of p = record { x = minus_mod 0 p.x; y = p.y; z = p.z; t = minus_mod 0 p.t }

-- the sum of a point and n times another, by doubling and adding over so many bits of n, the lowest
-- first
unfoldable pub added : ℕ → ℕ → Point → Point → Point
added zero n total step = total
added (suc bits) n total step = added bits (n / 2) (if is_odd n then sum_of total step else total)
    (double_of step)

-- n times a point, for a number n below 2 ^ 253
abbrev pub multiple_of : ℕ → Point → Point
multiple_of n p = added 253 n neutral p

-- whether a point is (0, 1)
abbrev pub is_neutral : Point → Bool
is_neutral p = nat_eq p.x 0 && nat_eq p.y p.z
