-- Key usage: the content, by its bytes.
use Rattle.std.proofs.Common.{◌≡◌, ℕ, List, [], ◌∷◌, length, get_or, Option, MatchOption, arith}
use Rattle.it_certificate.specs.Usage.{AreUsageBits, IsUsageContent}
use Rattle.it_certificate.specs.declared.usage.Usage.{Usage}

pub of_two : (content : List ℕ) (r : Option Usage) → length content ≡ 2
    → MatchOption r ((u : Usage) → AreUsageBits (get_or content 0 0) (get_or content 1 0) (get_or content 1 0) u → ⊥)
    (λ u. AreUsageBits (get_or content 0 0) (get_or content 1 0) (get_or content 1 0) u)
    → MatchOption r ((u : Usage) → IsUsageContent content u → ⊥) (λ u. IsUsageContent content u)
of_two [] r long found = absurd (omega arith)
of_two (a ∷ []) r long found = absurd (omega arith)
of_two (a ∷ b ∷ []) r long found = found
of_two (a ∷ b ∷ c ∷ rest) r long found = absurd (omega arith)

pub of_three : (content : List ℕ) (r : Option Usage) → length content ≡ 3
    → MatchOption r ((u : Usage) → AreUsageBits (get_or content 0 0) (get_or content 1 0) (get_or content 2 0) u → ⊥)
    (λ u. AreUsageBits (get_or content 0 0) (get_or content 1 0) (get_or content 2 0) u)
    → MatchOption r ((u : Usage) → IsUsageContent content u → ⊥) (λ u. IsUsageContent content u)
of_three [] r long found = absurd (omega arith)
of_three (a ∷ []) r long found = absurd (omega arith)
of_three (a ∷ b ∷ []) r long found = absurd (omega arith)
of_three (a ∷ b ∷ c ∷ []) r long found = found
of_three (a ∷ b ∷ c ∷ d ∷ rest) r long found = absurd (omega arith)
