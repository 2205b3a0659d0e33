-- Points of P-384 in homogeneous coordinates: x / z and y / z are the coordinates, and z is 0 at
-- infinity.
use Rattle.std.specs.Prelude.{◌≡◌, ℕ, zero, suc, ◌-◌, ◌/◌, Bool, true, false, refl}
use Rattle.it_numbers.specs.Modular.{is_odd, power_mod}
use Rattle.it_p384_field.specs.Prime.{prime, plus_mod, minus_mod, times_mod}
use Rattle.it_p384_point.specs.declared.point.Point.{Point}
use Rattle.it_p384_point.specs.Curve.{curve_b, right_side, is_on_curve}

-- the point at infinity
abbrev pub infinity : Point
infinity = record { x = 0; y = 1; z = 0 }

-- the point with these coordinates
abbrev pub affine : ℕ → ℕ → Point
affine x y = record { x = x; y = y; z = 1 }

-- the base point G (SP 800-186, section 3.2.1.4)
abbrev pub base : Point
base = affine
    26247035095799689268623156744566981891852923491109213387815615900925518854738050089022388053975719786650872476732087
    8325710961489029985546751289520108179287853048861315594709205902480503199884419224438643760392947333078086511627871

base-on_curve : is_on_curve base.x base.y ≡ true
unfolding right_side
base-on_curve = refl

-- (a + b) (c + d), less the rest
abbrev pub cross_of : ℕ → ℕ → ℕ → ℕ → ℕ → ℕ
cross_of a b c d rest = minus_mod (times_mod (plus_mod a b) (plus_mod c d)) rest

-- the sum of two points, by the complete formulas of Renes, Costello and Batina (IACR ePrint
-- 2015/1060), algorithm 4
unfoldable pub sum_of : Point → Point → Point
sum_of p q =
    let xx = times_mod p.x q.x in
    let yy = times_mod p.y q.y in
    let zz = times_mod p.z q.z in
    let xy = cross_of p.x p.y q.x q.y (plus_mod xx yy) in
    let yz = cross_of p.y p.z q.y q.z (plus_mod yy zz) in
    let xz = cross_of p.x p.z q.x q.z (plus_mod xx zz) in
    let c = minus_mod xz (times_mod curve_b zz) in
    let c3 = plus_mod (plus_mod c c) c in
    let low = minus_mod yy c3 in
    let high = plus_mod yy c3 in
    let zz3 = plus_mod (plus_mod zz zz) zz in
    let d = minus_mod (minus_mod (times_mod curve_b xz) zz3) xx in
    let d3 = plus_mod (plus_mod d d) d in
    let e = minus_mod (plus_mod (plus_mod xx xx) xx) zz3 in
    record {
      x = minus_mod (times_mod xy high) (times_mod yz d3);
      y = plus_mod (times_mod high low) (times_mod e d3);
      z = plus_mod (times_mod yz low) (times_mod xy e);
    }

-- the sum of a point and itself, by their algorithm 6
unfoldable pub double_of : Point → Point
double_of p =
    let xx = times_mod p.x p.x in
    let yy = times_mod p.y p.y in
    let zz = times_mod p.z p.z in
    let xy = times_mod p.x p.y in
    let xy2 = plus_mod xy xy in
    let xz = times_mod p.x p.z in
    let xz2 = plus_mod xz xz in
    let c = minus_mod (times_mod curve_b zz) xz2 in
    let c3 = plus_mod (plus_mod c c) c in
    let low = minus_mod yy c3 in
    let high = plus_mod yy c3 in
    let zz3 = plus_mod (plus_mod zz zz) zz in
    let d = minus_mod (minus_mod (times_mod curve_b xz2) zz3) xx in
    let d3 = plus_mod (plus_mod d d) d in
    let e = minus_mod (plus_mod (plus_mod xx xx) xx) zz3 in
    let yz = times_mod p.y p.z in
    let yz2 = plus_mod yz yz in
    let w = times_mod yz2 yy in
    let w2 = plus_mod w w in
    record {
      x = minus_mod (times_mod low xy2) (times_mod yz2 d3);
      y = plus_mod (times_mod high low) (times_mod e d3);
      z = plus_mod w2 w2;
    }

-- a total, plus a point where the first bit is 1, and plus another where the second one is: plus
-- their sum where both are
abbrev pub added_by : Bool → Bool → Point → Point → Point → Point
added_by true true p q total = sum_of total (sum_of p q)
added_by true false p q total = sum_of total p
added_by false true p q total = sum_of total q
added_by false false p q total = total

-- n times a point plus m times another, for numbers of so many bits, by double and add over the
-- bits of both from the highest on
unfoldable pub sum_of_multiples : ℕ → ℕ → ℕ → Point → Point → Point
sum_of_multiples zero n m p q = infinity
sum_of_multiples (suc bits) n m p q =
    added_by (is_odd n) (is_odd m) p q (double_of (sum_of_multiples bits (n / 2) (m / 2) p q))

-- the first coordinate x / z, of a point other than infinity: the inverse is a power, by Fermat's
-- little theorem
unfoldable pub first_coordinate : Point → ℕ
first_coordinate p = times_mod p.x (power_mod p.z (prime - 2) prime)
