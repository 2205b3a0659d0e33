-- The test of an ECDSA signature over P-384 beside its definition.
use Rattle.std.proofs.Common.{ℕ, List, subst}
use Rattle.std.specs.Bool.{Decides}
use Rattle.std.proofs.lemmas.Bool.Decides.{Decides-and, Decides-eqb, Decides-like, Decides-ltb}
use Rattle.std.proofs.lemmas.Bool.Decides.{Decides-not}
use Rattle.it_numbers.specs.Bytes.{big}
use Rattle.it_ecdsa_der.specs.Der.{IsSignatureValue}
use Rattle.it_p384.specs.Key.{Key}
use Rattle.it_p384.specs.Signature.{Agrees, IsInRange, IsSigned, IsSignatureOfDigest, combination_of}
use Rattle.it_public_keys.specs.P384Test.{agrees_at, is_in_range, is_p384_signature, is_signed}
use Rattle.it_public_keys.proofs.P256Tests.{are_read, first_of, second_of, sequence_decides}

range_decides : (n : ℕ) → Decides (is_in_range n) (IsInRange n)
range_decides n =
    Decides-like (is_in_range n) (λ h. record { positive = h.0; below = h.1 })
    (λ is. (is.positive, is.below))
    (Decides-and _ _ (Decides-ltb 0 n) (Decides-ltb n _))

agrees_decides : (key : Key) (e r s : ℕ)
    → Decides (agrees_at (combination_of key e r s) r) (Agrees key e r s)
agrees_decides key e r s =
    Decides-like (agrees_at (combination_of key e r s) r)
    (λ h. record { finite = h.0; same = h.1 }) (λ is. (is.finite, is.same))
    (Decides-and _ _ (Decides-not _ (Decides-eqb (combination_of key e r s).z 0))
    (Decides-eqb _ r))

signed_decides : (key : Key) (e r s : ℕ) → Decides (is_signed key e r s) (IsSigned key e r s)
signed_decides key e r s =
    Decides-like (is_signed key e r s)
    (λ h. record { r_good = h.0; s_good = h.1.0; agrees = h.1.1 })
    (λ is. (is.r_good, (is.s_good, is.agrees)))
    (Decides-and _ _ (range_decides r)
    (Decides-and _ _ (range_decides s) (agrees_decides key e r s)))

pub p384_decides : (key : Key) (digest signature : List ℕ)
    → Decides (is_p384_signature key digest signature) (IsSignatureOfDigest key digest signature)
unfolding is_p384_signature
p384_decides key digest signature =
    let r = first_of signature in
    let s = second_of signature in
    Decides-like (is_p384_signature key digest signature)
    (λ h. record { r = r; s = s; encoded = h.0; good = h.1 })
    (λ is. let read = are_read signature is.r is.s is.encoded in (
      subst (λ n. IsSignatureValue signature r n) read.second
          (subst (λ n. IsSignatureValue signature n is.s) read.first is.encoded),
      subst (λ n. IsSigned key (big digest) r n) read.second
          (subst (λ n. IsSigned key (big digest) n is.s) read.first is.good),
    ))
    (Decides-and _ _ (sequence_decides signature) (signed_decides key (big digest) r s))
