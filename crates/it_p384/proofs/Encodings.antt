-- The encoding of a signature tells its two numbers.
use Rattle.std.proofs.Common.{◌≡◌, ℕ, ◌↔◌, subst, IsTrue, Bool, true, false, List}
use Rattle.it_numbers.specs.Bytes.{big}
use Rattle.it_ecdsa_der.specs.Der.{IsSignatureValue}
use Rattle.it_ecdsa_der.proofs.OneValue.{same_numbers}
use Rattle.it_p384.specs.Key.{Key}
use Rattle.it_p384.specs.Signature.{IsSigned, IsSignatureOfDigest}

pub unread : (key : Key) (digest signature : List ℕ) → ((r s : ℕ) → IsSignatureValue signature r s → ⊥)
    → IsTrue false ↔ IsSignatureOfDigest key digest signature
unread key digest signature none = (
  λ (no : false ≡ true). cc,
  λ d. absurd (none d.r d.s d.encoded),
)

pub read_judged : (key : Key) (digest signature : List ℕ) (r s : ℕ) (t : Bool) → IsSignatureValue signature r s
    → IsTrue t ↔ IsSigned key (big digest) r s → IsTrue t ↔ IsSignatureOfDigest key digest signature
read_judged key digest signature r s t h g = (
  λ yes. record { r = r; s = s; encoded = h; good = g.0 yes },
  λ d.
      let same = same_numbers signature d.r d.s r s d.encoded h in
      let moved : IsSigned key (big digest) r d.s = subst (λ (k : ℕ). IsSigned key (big digest) k d.s) same.0 d.good in
      let all : IsSigned key (big digest) r s = subst (λ (k : ℕ). IsSigned key (big digest) r k) same.1 moved in
      g.1 all,
)
