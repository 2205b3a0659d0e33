-- When bytes are a message's signature under a public key (RFC 8032, section 5.1.7, without the
-- cofactor: [S] B = R + [k] A, by the bytes of R).
use Rattle.std.specs.Prelude.{◌≡◌, ℕ, ◌%◌, ◌<◌, List, ◌++◌, length, take, drop, Some}
use Rattle.sha2.specs.Sha512.{sha512}
use Rattle.it_numbers.specs.Bytes.{little}
use Rattle.it_ed_scalar.specs.Order.{order}
use Rattle.it_ed_point.specs.declared.point.Point.{Point}
use Rattle.it_ed_point.specs.Curve.{base, sum_of, opposite_of, multiple_of}
use Rattle.it_ed_point.specs.Encoding.{encoding_of, decoded}

-- k: the SHA-512 of the bytes of R, the key and the message, modulo L (step 2)
unfoldable pub challenge_of : List ℕ → List ℕ → List ℕ → ℕ
challenge_of r key message = little (sha512 (r ++ key ++ message)) % order

-- [S] B + [k] (-A)
unfoldable pub combination_of : Point → ℕ → ℕ → Point
combination_of a s k = sum_of (multiple_of s base) (multiple_of k (opposite_of a))

-- the key decodes to a point A; the signature is the bytes of R and of S, 32 each; S is below L
-- (step 1); and [S] B + [k] (-A) has the bytes of R (step 3)
pub record IsSignature (key message signature : List ℕ) : Type 0 where
  pub point : Point
  pub decodes : decoded key ≡ Some point
  pub long : length signature ≡ 64
  pub below : little (drop 32 signature) < order
  pub agrees : encoding_of (combination_of point (little (drop 32 signature))
      (challenge_of (take 32 signature) key message)) ≡ take 32 signature
