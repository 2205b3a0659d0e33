-- The furthest of the conditions that are missed, by their places in an order.
use Rattle.std.specs.Prelude.{◌≡◌, ◌⊎◌, ℕ, ◌≤◌, List, Any}

-- this condition is missed, and no further one
pub record IsFurthest {S : Type 0} (place_of : S → ℕ) (IsMissed : S → Type 0) (s : S)
    : Type 0 where
  pub is_missed : IsMissed s
  pub furthest : (t : S) → IsMissed t → place_of t ≤ place_of s

-- one of some elements misses this condition, or it is the first, which always counts as missed: so
-- the furthest of those that are missed is the first only where no element misses a further one
abbrev pub IsMissedByOne : {X S : Type 0} → S → (X → S → Type 0) → List X → S → Type 0
IsMissedByOne first Misses xs s = (s ≡ first) ⊎ Any (λ x. Misses x s) xs
