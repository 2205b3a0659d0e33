-- The test of an ECDSA signature beside its definition.
use Rattle.std.proofs.Common.{◌≡◌, ◌∙◌, ℕ, ◌+◌, ◌<◌, ◌≤◌, List, true, false}
use Rattle.std.proofs.Common.{arith, ap, inl, inr, length, nat_le, refl, slice_index, subst, sym}
use Rattle.std.specs.Bool.{Decides}
use Rattle.std.proofs.lemmas.Bool.{cases_lt}
use Rattle.std.proofs.lemmas.Bool.Decides.{Decides-and, Decides-eqb, Decides-like, Decides-ltb}
use Rattle.std.proofs.lemmas.Bool.Decides.{Decides-not, leb_tells}
use Rattle.it_numbers.specs.Bytes.{big}
use Rattle.it_ecdsa_der.specs.Der.{IsInteger, IsSignatureValue}
use Rattle.it_p256.specs.Key.{Key}
use Rattle.it_p256.specs.Signature.{Agrees, IsInRange, IsSigned, IsSignatureOfDigest, combination_of}
use Rattle.it_public_keys.specs.P256Test.{agrees_at, integer_at, is_in_range, is_integer}
use Rattle.it_public_keys.specs.P256Test.{is_p256_signature, is_sequence, is_signed, middle_of}

pub le_decides : (a b : ℕ) → Decides (nat_le a b) (a ≤ b)
le_decides a b = elim (leb_tells a b) [
  | inl is ↦ (λ passes. is.1, λ le. is.0)
  | inr is ↦ (
    λ passes. absurd (let clash : true ≡ false = sym passes ∙ is.0 in cc),
    λ le. absurd (let above : b < a = is.1 in omega arith),
  )
]

-- what is not below is at least as much
at_least : (A B : Type 0) (n m : ℕ) → ¬ (A × (B × (n < m))) → A → B → m ≤ n
at_least A B n m none a b = elim (cases_lt n m) [
  | inl below ↦ absurd (none (a, (b, below)))
  | inr above ↦ above
]

integer_decides : (bytes : List ℕ) (start end : ℕ)
    → Decides (is_integer bytes start end) (IsInteger bytes start end (integer_at bytes start end))
unfolding is_integer
integer_decides bytes start end =
    Decides-like (is_integer bytes start end)
    (λ h. record {
      tag = h.0;
      short = h.1.0;
      end_is = h.1.1.0;
      inside = h.1.1.1.0;
      some = h.1.1.1.1.0;
      not_negative = h.1.1.1.1.1.0;
      shortest = at_least (start + 3 < end) (slice_index bytes (start + 2) ≡ 0)
          (slice_index bytes (start + 3)) 128 h.1.1.1.1.1.1;
      value = refl;
    })
    (λ is. (
      is.tag,
      (
        is.short,
        (
          is.end_is,
          (
            is.inside,
            (
              is.some,
              (
                is.not_negative,
                λ bad. let least : 128 ≤ slice_index bytes (start + 3) = is.shortest bad.0 bad.1.0 in
                    let below : slice_index bytes (start + 3) < 128 = bad.1.1 in absurd (omega arith),
              ),
            ),
          ),
        ),
      ),
    ))
    (Decides-and _ _ (Decides-eqb (slice_index bytes start) 2)
    (Decides-and _ _ (Decides-ltb (slice_index bytes (start + 1)) 128)
    (Decides-and _ _ (Decides-eqb end (start + 2 + slice_index bytes (start + 1)))
    (Decides-and _ _ (le_decides end (length bytes))
    (Decides-and _ _ (Decides-ltb (start + 2) end)
    (Decides-and _ _ (Decides-ltb (slice_index bytes (start + 2)) 128)
    (Decides-not _ (Decides-and _ _ (Decides-ltb (start + 3) end)
    (Decides-and _ _ (Decides-eqb (slice_index bytes (start + 2)) 0)
    (Decides-ltb (slice_index bytes (start + 3)) 128))))))))))

-- the numbers of a signature
abbrev pub first_of : List ℕ → ℕ
first_of bytes = integer_at bytes 2 (middle_of bytes)

abbrev pub second_of : List ℕ → ℕ
second_of bytes = integer_at bytes (middle_of bytes) (length bytes)

-- where the first integer of any reading ends
middle_is : (bytes : List ℕ) (r s : ℕ) → (is : IsSignatureValue bytes r s) → is.middle ≡ middle_of bytes
middle_is bytes r s is = is.first.end_is

-- an integer at the same place is the same
moved : (bytes : List ℕ) (start end to until n : ℕ) → start ≡ to → end ≡ until
    → IsInteger bytes start end n → IsInteger bytes to until (integer_at bytes to until)
moved bytes start end to until n from e is =
    let there : IsInteger bytes to until n =
    subst (λ x. IsInteger bytes to x n) e (subst (λ x. IsInteger bytes x end n) from is) in
    record {
      tag = there.tag;
      short = there.short;
      end_is = there.end_is;
      inside = there.inside;
      some = there.some;
      not_negative = there.not_negative;
      shortest = there.shortest;
      value = refl;
    }

number_is : (bytes : List ℕ) (start end to until n : ℕ) → start ≡ to → end ≡ until
    → IsInteger bytes start end n → n ≡ integer_at bytes to until
number_is bytes start end to until n from e is =
    sym is.value ∙ ap (λ x. integer_at bytes x end) from ∙ ap (integer_at bytes to) e

pub record AreRead (bytes : List ℕ) (r s : ℕ) : Type 0 where
  pub first : r ≡ first_of bytes
  pub second : s ≡ second_of bytes

pub are_read : (bytes : List ℕ) (r s : ℕ) → IsSignatureValue bytes r s → AreRead bytes r s
are_read bytes r s is = record {
  first = number_is bytes 2 is.middle 2 (middle_of bytes) r refl (middle_is bytes r s is) is.first;
  second = number_is bytes is.middle (length bytes) (middle_of bytes) (length bytes) s
      (middle_is bytes r s is) refl is.second;
}

pub sequence_decides : (bytes : List ℕ)
    → Decides (is_sequence bytes) (IsSignatureValue bytes (first_of bytes) (second_of bytes))
unfolding is_sequence
sequence_decides bytes =
    Decides-like (is_sequence bytes)
    (λ h. record {
      tag = h.0;
      short = h.1.0;
      whole = h.1.1.0;
      middle = middle_of bytes;
      first = h.1.1.1.0;
      second = h.1.1.1.1;
    })
    (λ is. (
      is.tag,
      (
        is.short,
        (
          is.whole,
          (
            moved bytes 2 is.middle 2 (middle_of bytes) _ refl (middle_is bytes _ _ is) is.first,
            moved bytes is.middle (length bytes) (middle_of bytes) (length bytes) _
                (middle_is bytes _ _ is) refl is.second,
          ),
        ),
      ),
    ))
    (Decides-and _ _ (Decides-eqb (slice_index bytes 0) 48)
    (Decides-and _ _ (Decides-ltb (slice_index bytes 1) 128)
    (Decides-and _ _ (Decides-eqb (length bytes) (2 + slice_index bytes 1))
    (Decides-and _ _ (integer_decides bytes 2 (middle_of bytes))
    (integer_decides bytes (middle_of bytes) (length bytes))))))

range_decides : (n : ℕ) → Decides (is_in_range n) (IsInRange n)
range_decides n =
    Decides-like (is_in_range n) (λ h. record { positive = h.0; below = h.1 })
    (λ is. (is.positive, is.below))
    (Decides-and _ _ (Decides-ltb 0 n) (Decides-ltb n _))

agrees_decides : (key : Key) (e r s : ℕ)
    → Decides (agrees_at (combination_of key e r s) r) (Agrees key e r s)
agrees_decides key e r s =
    Decides-like (agrees_at (combination_of key e r s) r)
    (λ h. record { finite = h.0; same = h.1 }) (λ is. (is.finite, is.same))
    (Decides-and _ _ (Decides-not _ (Decides-eqb (combination_of key e r s).z 0))
    (Decides-eqb _ r))

signed_decides : (key : Key) (e r s : ℕ) → Decides (is_signed key e r s) (IsSigned key e r s)
signed_decides key e r s =
    Decides-like (is_signed key e r s)
    (λ h. record { r_good = h.0; s_good = h.1.0; agrees = h.1.1 })
    (λ is. (is.r_good, (is.s_good, is.agrees)))
    (Decides-and _ _ (range_decides r)
    (Decides-and _ _ (range_decides s) (agrees_decides key e r s)))

pub p256_decides : (key : Key) (digest signature : List ℕ)
    → Decides (is_p256_signature key digest signature) (IsSignatureOfDigest key digest signature)
unfolding is_p256_signature
p256_decides key digest signature =
    let r = first_of signature in
    let s = second_of signature in
    Decides-like (is_p256_signature key digest signature)
    (λ h. record { r = r; s = s; encoded = h.0; good = h.1 })
    (λ is. let read = are_read signature is.r is.s is.encoded in (
      subst (λ n. IsSignatureValue signature r n) read.second
          (subst (λ n. IsSignatureValue signature n is.s) read.first is.encoded),
      subst (λ n. IsSigned key (big digest) r n) read.second
          (subst (λ n. IsSigned key (big digest) n is.s) read.first is.good),
    ))
    (Decides-and _ _ (sequence_decides signature) (signed_decides key (big digest) r s))
