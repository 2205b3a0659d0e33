-- Texts that are appended one after another.
use Rattle.std.proofs.Common.{◌≡◌, ◌++◌, ◌∙◌, ℕ, List, ap, append_assoc}

module _ (old first second : List ℕ) where
  pub and_then : (now new : List ℕ) → now ≡ old ++ first → new ≡ now ++ second
      → new ≡ old ++ (first ++ second)
  and_then now new one other =
      other ∙ ap (λ text. text ++ second) one ∙ append_assoc old first second
