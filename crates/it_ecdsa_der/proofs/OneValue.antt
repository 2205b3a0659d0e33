-- An encoding tells its two numbers.
use Rattle.std.proofs.Common.{◌≡◌, ℕ, ◌+◌, ◌-◌, subst, List, take, drop, length, sym, ap, ◌∙◌}
use Rattle.it_numbers.specs.Bytes.{big}
use Rattle.it_ecdsa_der.specs.Der.{IsInteger, IsSignatureValue}

same_integer : (bytes : List ℕ) (start end end' n n' : ℕ) → IsInteger bytes start end n
    → IsInteger bytes start end' n' → (end ≡ end') × (n ≡ n')
same_integer bytes start end end' n n' a b =
    let e : end ≡ end' = a.end_is ∙ sym b.end_is in (
      e,
      sym a.value ∙ ap (λ (k : ℕ). big (take (k - (start + 2)) (drop (start + 2) bytes))) e
          ∙ b.value,
    )

-- bytes encode one pair of numbers at most
pub same_numbers : (bytes : List ℕ) (r s r' s' : ℕ) → IsSignatureValue bytes r s
    → IsSignatureValue bytes r' s' → (r ≡ r') × (s ≡ s')
same_numbers bytes r s r' s' a b =
    let first = same_integer bytes 2 a.middle b.middle r r' a.first b.first in
    let moved : IsInteger bytes a.middle (length bytes) s' =
    subst (λ (k : ℕ). IsInteger bytes k (length bytes) s') (sym first.0) b.second in (
      first.1,
      (same_integer bytes a.middle (length bytes) (length bytes) s s' a.second moved).1,
    )
