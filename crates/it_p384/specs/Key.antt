-- Public keys.
use Rattle.std.specs.Prelude.{◌≡◌, ℕ, ◌<◌, List, [], ◌∷◌, ◌++◌}
use Rattle.it_numbers.specs.Bytes.{big_bytes}
use Rattle.it_p384_field.specs.Prime.{prime, times_mod}
use Rattle.it_p384_point.specs.Curve.{right_side}

-- the coordinates of a key's point
pub record Key : Type 0 where
  pub x : ℕ
  pub y : ℕ

-- they are below the prime, and the point is on the curve (SP 800-56A, section 5.6.2.3.3, whose
-- last test is not needed for P-384: its order is prime)
pub record IsKey (key : Key) : Type 0 where
  pub x_below : key.x < prime
  pub y_below : key.y < prime
  pub on_curve : times_mod key.y key.y ≡ right_side key.x

-- the object identifiers of an elliptic curve key, 1.2.840.10045.2.1, and of the curve secp384r1,
-- 1.3.132.0.34, in DER (RFC 5480, sections 2.1.1 and 2.1.1.1)
abbrev pub key_identifier : List ℕ
key_identifier = 6 ∷ 7 ∷ 42 ∷ 134 ∷ 72 ∷ 206 ∷ 61 ∷ 2 ∷ 1 ∷ []

abbrev pub curve_identifier : List ℕ
curve_identifier = 6 ∷ 5 ∷ 43 ∷ 129 ∷ 4 ∷ 0 ∷ 34 ∷ []

-- what comes before the coordinates: a SEQUENCE of the SEQUENCE of the two identifiers and a BIT
-- STRING, which begins with 0 for no unused bits and 4 for an uncompressed point
abbrev pub info_prefix : List ℕ
info_prefix = 48 ∷ 118 ∷ 48 ∷ 16 ∷ key_identifier ++ curve_identifier ++ 3 ∷ 98 ∷ 0 ∷ 4 ∷ []

-- the SubjectPublicKeyInfo of a key (RFC 5480, section 2; SEC 1, section 2.3.3)
abbrev pub info_of : Key → List ℕ
info_of key = info_prefix ++ (big_bytes 48 key.x ++ big_bytes 48 key.y)
