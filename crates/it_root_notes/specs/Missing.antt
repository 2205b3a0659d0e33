-- What it means that an element of a list misses something, and none before it does.
use Rattle.std.specs.Prelude.{ℕ, zero, suc, List, [], ◌∷◌}

-- the element at this place of the list misses it, and those before it meet it, where the elements
-- have numbers that count on from this one
abbrev pub MissesFrom : {X : Type 0} → (ℕ → X → Type 0) → (ℕ → X → Type 0) → ℕ → List X → ℕ
    → Type 0
MissesFrom Meets Misses number [] place = ⊥
MissesFrom Meets Misses number (x ∷ xs) zero = Misses number x
MissesFrom Meets Misses number (x ∷ xs) (suc place) =
    Meets number x × MissesFrom Meets Misses (suc number) xs place

-- the element at this place of the list misses it with the next one, and those before it meet it
-- with theirs
abbrev pub MissesNext : {X : Type 0} → (X → X → Type 0) → List X → ℕ → Type 0
MissesNext Meets [] place = ⊥
MissesNext Meets (x ∷ []) place = ⊥
MissesNext Meets (x ∷ next ∷ xs) zero = ¬ Meets x next
MissesNext Meets (x ∷ next ∷ xs) (suc place) = Meets x next × MissesNext Meets (next ∷ xs) place
