-- The public key of a certificate's subject (RFC 5480): SubjectPublicKeyInfo with a named curve,
-- P-256 or P-384, and a point that is not compressed (this profile's choices). That the point is
-- one of the curve is not looked at.
use Rattle.std.specs.Prelude.{◌≡◌, ℕ, List, [], ◌∷◌, ◌++◌, length}
use Rattle.it_certificate.specs.declared.subject_key.Curve.{Curve}
use Rattle.it_certificate.specs.declared.subject_key.Curve.TheVariants.{P256, P384}

-- the algorithm: id-ecPublicKey and the curve, secp256r1 or secp384r1
abbrev pub key_algorithm : Curve → List ℕ
key_algorithm P256 = 48 ∷ 19 ∷ 6 ∷ 7 ∷ 42 ∷ 134 ∷ 72 ∷ 206 ∷ 61 ∷ 2 ∷ 1
    ∷ 6 ∷ 8 ∷ 42 ∷ 134 ∷ 72 ∷ 206 ∷ 61 ∷ 3 ∷ 1 ∷ 7 ∷ []
key_algorithm P384 = 48 ∷ 16 ∷ 6 ∷ 7 ∷ 42 ∷ 134 ∷ 72 ∷ 206 ∷ 61 ∷ 2 ∷ 1
    ∷ 6 ∷ 5 ∷ 43 ∷ 129 ∷ 4 ∷ 0 ∷ 34 ∷ []

-- how many bytes the two coordinates have together
abbrev pub coordinates_size : Curve → ℕ
coordinates_size P256 = 64
coordinates_size P384 = 96

-- the front of a BIT STRING of whole bytes, and what says that the point is not compressed
abbrev pub before_coordinates : Curve → List ℕ
before_coordinates P256 = 3 ∷ 66 ∷ 0 ∷ 4 ∷ []
before_coordinates P384 = 3 ∷ 98 ∷ 0 ∷ 4 ∷ []

-- the content of a SubjectPublicKeyInfo is a key
pub record IsKeyContent (content : List ℕ) (curve : Curve) (coordinates : List ℕ) : Type 0 where
  pub size : length coordinates ≡ coordinates_size curve
  pub written : content ≡ key_algorithm curve ++ before_coordinates curve ++ coordinates
