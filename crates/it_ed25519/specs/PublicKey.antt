-- When 32 bytes are a public key.
use Rattle.std.specs.Prelude.{◌≡◌, ℕ, Bool, false, Some, List, length}
use Rattle.it_ed_point.specs.declared.point.Point.{Point}
use Rattle.it_ed_point.specs.Curve.{double_of, is_neutral, opposite_of}
use Rattle.it_ed_point.specs.Encoding.{decoded}

-- whether 8 times a point is the neutral point
abbrev pub is_small_order : Point → Bool
is_small_order p = is_neutral (double_of (double_of (double_of p)))

-- the bytes are 32 and decode to a point (RFC 8032, section 5.1.3) that is not of small order. That
-- points of small order are refused is this profile's choice: under such a key anyone could sign
pub record IsPublicKey (bytes : List ℕ) : Type 0 where
  pub long : length bytes ≡ 32
  pub point : Point
  pub decodes : decoded bytes ≡ Some point
  pub large : is_small_order point ≡ false

-- the bytes are a public key, and a point is the opposite of its point
pub record HoldsKey (bytes : List ℕ) (opposite : Point) : Type 0 where
  pub key : IsPublicKey bytes
  pub is : opposite ≡ opposite_of key.point
