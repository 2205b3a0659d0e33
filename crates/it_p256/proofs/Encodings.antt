-- The encoding of a signature tells its two numbers.
use Rattle.std.proofs.Common.{◌≡◌, ℕ, ◌^◌, ◌<◌, ◌↔◌, subst, IsTrue, Bool, true, false, List, sym, arith}
use Rattle.it_numbers.specs.Bytes.{big}
use Rattle.it_ecdsa_der.specs.Der.{IsSignatureValue}
use Rattle.it_ecdsa_der.proofs.OneValue.{same_numbers}
use Rattle.it_p256_order.specs.Order.{group_order}
use Rattle.it_p256.specs.Key.{Key}
use Rattle.it_p256.specs.Signature.{IsSigned, IsSignatureOfDigest}

pub unread : (key : Key) (digest signature : List ℕ) → ((r s : ℕ) → r < 2 ^ 256 → s < 2 ^ 256 → IsSignatureValue signature r s → ⊥)
    → IsTrue false ↔ IsSignatureOfDigest key digest signature
unread key digest signature none = (
  λ (no : false ≡ true). cc,
  λ d.
      let hr : d.r < group_order = d.good.r_good.below in
      let hs : d.s < group_order = d.good.s_good.below in
      absurd (none d.r d.s (omega arith) (omega arith) d.encoded),
)

pub read_judged : (key : Key) (digest signature : List ℕ) (e r s : ℕ) (t : Bool) → IsSignatureValue signature r s → e ≡ big digest
    → IsTrue t ↔ IsSigned key e r s → IsTrue t ↔ IsSignatureOfDigest key digest signature
read_judged key digest signature e r s t h f g = (
  λ yes. record { r = r; s = s; encoded = h; good = subst (λ (k : ℕ). IsSigned key k r s) f (g.0 yes) },
  λ d.
      let same = same_numbers signature d.r d.s r s d.encoded h in
      let moved : IsSigned key (big digest) r d.s = subst (λ (k : ℕ). IsSigned key (big digest) k d.s) same.0 d.good in
      let all : IsSigned key (big digest) r s = subst (λ (k : ℕ). IsSigned key (big digest) r k) same.1 moved in
      g.1 (subst (λ (k : ℕ). IsSigned key k r s) (sym f) all),
)
