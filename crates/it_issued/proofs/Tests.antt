-- What tests say of what they test.
use Rattle.std.proofs.Common.{◌≡◌, Bool, false, true≢false, IsTrue, ◌↔◌, sym, subst, ◌∙◌}

pub refused : (P : Type 0) → (P → ⊥) → IsTrue false ↔ P
refused P none = (λ t. absurd (true≢false (sym t)), λ p. absurd (none p))

-- a test that fails refutes what follows from what it tests
pub fails : (P Q : Type 0) (b : Bool) → IsTrue b ↔ P → b ≡ false → (Q → P) → IsTrue false ↔ Q
fails P Q b iff wrong needs = refused Q (λ q. true≢false (sym (subst IsTrue wrong (iff.1 (needs q)))))

-- what fails its test is not so
pub is_not : (P : Type 0) (b : Bool) → IsTrue b ↔ P → b ≡ false → ¬ P
is_not P b iff wrong = λ p. true≢false (sym (iff.1 p) ∙ wrong)
