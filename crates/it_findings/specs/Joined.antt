-- Lists of what is said, made of what is said of each part (a word of this project).
use Rattle.std.specs.Prelude.{◌≡◌, ◌⊎◌, ℕ, ◌+◌, List, [], ◌∷◌, ◌++◌}

-- this is said exactly where that holds, and nothing else
abbrev pub Said : {F : Type 0} → Type 0 → F → List F → Type 0
Said P finding found = (P × (found ≡ finding ∷ [])) ⊎ ((¬ P) × (found ≡ []))

-- what is said of each element, one after another: R says what is said of an element at its place,
-- and the first has the place n
abbrev pub JoinedFrom : {X F : Type 0} → (ℕ → X → List F → Type 0) → ℕ → List X → List F → Type 0
JoinedFrom R n [] found = found ≡ []
JoinedFrom {F = F} R n (x ∷ xs) found =
    (here : List F) × (rest : List F) × (found ≡ here ++ rest) × R n x here
    × JoinedFrom R (n + 1) xs rest

-- the same where the first has the place 0
abbrev pub Joined : {X F : Type 0} → (ℕ → X → List F → Type 0) → List X → List F → Type 0
Joined R xs found = JoinedFrom R 0 xs found

-- the same where what is said does not depend on the place
abbrev pub JoinedEach : {X F : Type 0} → (X → List F → Type 0) → List X → List F → Type 0
JoinedEach R xs found = Joined (λ n x here. R x here) xs found
