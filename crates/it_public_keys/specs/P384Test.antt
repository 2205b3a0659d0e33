-- Whether an ECDSA signature over P-384 is valid, as a test (FIPS 186-5, section 6.4.2). Its
-- encoding is that of P256Test.
use Rattle.std.specs.Prelude.{ℕ, ◌%◌, List, Bool, ◌&&◌, not, nat_eq, nat_lt, length}
use Rattle.it_numbers.specs.Bytes.{big}
use Rattle.it_p384_order.specs.Order.{group_order}
use Rattle.it_p384_point.specs.Points.{first_coordinate}
use Rattle.it_p384_point.specs.declared.point.Point.{Point}
use Rattle.it_p384.specs.Key.{Key}
use Rattle.it_p384.specs.Signature.{combination_of}
use Rattle.it_public_keys.specs.P256Test.{integer_at, is_sequence, middle_of}

-- the number is in range for r or s
abbrev pub is_in_range : ℕ → Bool
is_in_range n = nat_lt 0 n && nat_lt n group_order

-- the point that the numbers lead to agrees with the first of them
abbrev pub agrees_at : Point → ℕ → Bool
agrees_at point r = not (nat_eq point.z 0) && nat_eq (first_coordinate point % group_order) r

abbrev pub is_signed : Key → ℕ → ℕ → ℕ → Bool
is_signed key e r s = is_in_range r && (is_in_range s && agrees_at (combination_of key e r s) r)

-- it is the key's signature of what has the digest
unfoldable pub is_p384_signature : Key → List ℕ → List ℕ → Bool
is_p384_signature key digest signature = is_sequence signature
    && is_signed key (big digest) (integer_at signature 2 (middle_of signature))
    (integer_at signature (middle_of signature) (length signature))
