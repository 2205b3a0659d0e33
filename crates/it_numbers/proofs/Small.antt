-- Bytes are below 256.
use Rattle.std.proofs.Common.{ℕ, ◌<◌, ◌≤◌, ◌⊎◌, inl, inr, List, All, length, get_or, arith}
use Rattle.std.proofs.lemmas.Bool.{cases_lt}
use Rattle.std.proofs.lemmas.List.{get_or_past}
use Rattle.std.proofs.lemmas.List.Elements.{All-get_or}

pub each_small : (bs : List ℕ) → All (λ b. b < 256) bs → (k : ℕ) → get_or bs k 0 < 256
each_small bs all k =
    elim (cases_lt k (length bs)) as (λ (s : (k < length bs) ⊎ (length bs ≤ k)). get_or bs k 0 < 256) [
      | inl lt ↦ All-get_or (λ (b : ℕ). b < 256) bs k 0 lt all
      | inr ge ↦ rw (get_or_past bs k 0 ge) (omega arith)
    ]
