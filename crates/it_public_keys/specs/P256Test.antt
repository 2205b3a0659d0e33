-- Whether an ECDSA signature over P-256 is valid, as a test (FIPS 186-5, section 6.4.2).
use Rattle.std.specs.Prelude.{ℕ, ◌+◌, ◌-◌, ◌%◌, List, Bool, ◌&&◌, not, nat_eq, nat_lt, nat_le}
use Rattle.std.specs.Prelude.{length, take, drop, slice_index}
use Rattle.it_numbers.specs.Bytes.{big}
use Rattle.it_p256_order.specs.Order.{group_order}
use Rattle.it_p256_point.specs.Points.{first_coordinate}
use Rattle.it_p256_point.specs.declared.point.Point.{Point}
use Rattle.it_p256.specs.Key.{Key}
use Rattle.it_p256.specs.Signature.{combination_of}

-- an INTEGER is between two places, in the fewest bytes that hold it
unfoldable pub is_integer : List ℕ → ℕ → ℕ → Bool
is_integer bytes start end = nat_eq (slice_index bytes start) 2
    && (nat_lt (slice_index bytes (start + 1)) 128
    && (nat_eq end (start + 2 + slice_index bytes (start + 1))
    && (nat_le end (length bytes) && (nat_lt (start + 2) end
    && (nat_lt (slice_index bytes (start + 2)) 128
    && not (nat_lt (start + 3) end && (nat_eq (slice_index bytes (start + 2)) 0
    && nat_lt (slice_index bytes (start + 3)) 128)))))))

-- and its number
abbrev pub integer_at : List ℕ → ℕ → ℕ → ℕ
integer_at bytes start end = big (take (end - (start + 2)) (drop (start + 2) bytes))

-- where the first INTEGER of a signature ends, and the second begins
abbrev pub middle_of : List ℕ → ℕ
middle_of bytes = 4 + slice_index bytes 3

-- the bytes are a SEQUENCE of two INTEGERs and nothing else
unfoldable pub is_sequence : List ℕ → Bool
is_sequence bytes = nat_eq (slice_index bytes 0) 48 && (nat_lt (slice_index bytes 1) 128
    && (nat_eq (length bytes) (2 + slice_index bytes 1)
    && (is_integer bytes 2 (middle_of bytes)
    && is_integer bytes (middle_of bytes) (length bytes))))

-- the number is in range for r or s
abbrev pub is_in_range : ℕ → Bool
is_in_range n = nat_lt 0 n && nat_lt n group_order

-- the point that the numbers lead to agrees with the first of them
abbrev pub agrees_at : Point → ℕ → Bool
agrees_at point r = not (nat_eq point.z 0) && nat_eq (first_coordinate point % group_order) r

abbrev pub is_signed : Key → ℕ → ℕ → ℕ → Bool
is_signed key e r s = is_in_range r && (is_in_range s && agrees_at (combination_of key e r s) r)

-- it is the key's signature of what has the digest
unfoldable pub is_p256_signature : Key → List ℕ → List ℕ → Bool
is_p256_signature key digest signature = is_sequence signature
    && is_signed key (big digest) (integer_at signature 2 (middle_of signature))
    (integer_at signature (middle_of signature) (length signature))
