-- When a point in extended coordinates is on edwards25519, and when two points are the same (RFC
-- 8032, sections 5.1 and 5.1.4). Coordinates (X, Y, Z, T) mean x = X / Z and y = Y / Z, with
-- x y = T / Z; so Z is not 0.
use Rattle.std.specs.Prelude.{◌≡◌, ◌≢◌, ◌<◌}
use Rattle.it_ed_field.specs.Prime.{prime, plus_mod, minus_mod, times_mod}
use Rattle.it_ed_point.specs.Curve.{curve_d}
use Rattle.it_ed_point.specs.declared.point.Point.{Point}

-- each coordinate is reduced: it is a number below the prime (this profile's choice)
pub record IsReduced (p : Point) : Type 0 where
  pub x : p.x < prime
  pub y : p.y < prime
  pub z : p.z < prime
  pub t : p.t < prime

-- modulo the prime, -X ^ 2 + Y ^ 2 = Z ^ 2 + d T ^ 2 and X Y = Z T, which say of x and y that
-- -x ^ 2 + y ^ 2 = 1 + d x ^ 2 y ^ 2
pub record IsOnCurve (p : Point) : Type 0 where
  pub reduced : IsReduced p
  pub finite : p.z ≢ 0
  pub equation : minus_mod (times_mod p.y p.y) (times_mod p.x p.x)
      ≡ plus_mod (times_mod p.z p.z) (times_mod curve_d (times_mod p.t p.t))
  pub product : times_mod p.x p.y ≡ times_mod p.z p.t

-- modulo the prime, X1 Z2 = X2 Z1 and Y1 Z2 = Y2 Z1, which say that x and y are the same. This says
-- nothing where a Z is 0; that no sum of points on the curve has Z = 0 is not proved
pub record IsSamePoint (p q : Point) : Type 0 where
  pub x : times_mod p.x q.z ≡ times_mod q.x p.z
  pub y : times_mod p.y q.z ≡ times_mod q.y p.z
