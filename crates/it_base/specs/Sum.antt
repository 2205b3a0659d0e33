-- Sums of what things cost (a term of this project; no standard has it).
use Rattle.std.specs.Prelude.{◌≡◌, ◌⊎◌, ℕ, ◌+◌, List, [], ◌∷◌}

-- the sum of what each item costs
abbrev pub IsSum : {X : Type 0} → (X → ℕ → Type 0) → List X → ℕ → Type 0
IsSum Costs [] n = n ≡ 0
IsSum Costs (x ∷ xs) n =
    (first : ℕ) × (others : ℕ) × Costs x first × IsSum Costs xs others × (n ≡ first + others)

-- the cost of the thing that is found, or 0 where there is none
abbrev pub CostsIfFound : {X : Type 0} → (X → Type 0) → (X → ℕ → Type 0) → ℕ → Type 0
CostsIfFound {X} Is Costs n = ((x : X) × Is x × Costs x n) ⊎ (((x : X) → ¬ Is x) × (n ≡ 0))
