-- Signatures of ECDSA (FIPS 186-5, section 6.4.2) with P-384 and SHA-384.
use Rattle.std.specs.Prelude.{◌≡◌, ◌≢◌, ℕ, ◌-◌, ◌*◌, ◌%◌, ◌<◌, List}
use Rattle.sha2.specs.Sha512.{sha384}
use Rattle.it_numbers.specs.Bytes.{big}
use Rattle.it_numbers.specs.Modular.{power_mod}
use Rattle.it_ecdsa_der.specs.Der.{IsSignatureValue}
use Rattle.it_p384_order.specs.Order.{group_order}
use Rattle.it_p384_point.specs.declared.point.Point.{Point}
use Rattle.it_p384_point.specs.Points.{affine, base, sum_of_multiples, first_coordinate}
use Rattle.it_p384.specs.Key.{Key}

-- one of the two numbers of a signature (step 1)
pub record IsInRange (n : ℕ) : Type 0 where
  pub positive : 0 < n
  pub below : n < group_order

-- u G + v Q, where Q is the key's point, u is e / s and v is r / s modulo the order (steps 4 to 6):
-- the inverse of s is a power, by Fermat's little theorem
unfoldable pub combination_of : Key → ℕ → ℕ → ℕ → Point
combination_of key e r s =
    let inverse = power_mod s (group_order - 2) group_order in
    sum_of_multiples 384 ((e * inverse) % group_order) ((r * inverse) % group_order) base
    (affine key.x key.y)

-- that point is not infinity, and its first coordinate is r modulo the order (steps 6 to 8)
pub record Agrees (key : Key) (e r s : ℕ) : Type 0 where
  pub finite : (combination_of key e r s).z ≢ 0
  pub same : first_coordinate (combination_of key e r s) % group_order ≡ r

-- r and s are the key's signature of a message with the digest e
pub record IsSigned (key : Key) (e r s : ℕ) : Type 0 where
  pub r_good : IsInRange r
  pub s_good : IsInRange s
  pub agrees : Agrees key e r s

-- the same where r and s are encoded in bytes. A digest of 48 bytes has as many bits as the order
-- (steps 2 and 3)
pub record IsSignatureOfDigest (key : Key) (digest signature : List ℕ) : Type 0 where
  pub r : ℕ
  pub s : ℕ
  pub encoded : IsSignatureValue signature r s
  pub good : IsSigned key (big digest) r s

-- the key's signature of a message
abbrev pub IsSignature : Key → List ℕ → List ℕ → Type 0
IsSignature key message signature = IsSignatureOfDigest key (sha384 message) signature
