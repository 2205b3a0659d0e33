-- The names that follow a front of paths.
use Rattle.std.specs.Prelude.{◌≡◌, ◌++◌, ◌∷◌, ◌⊎◌, ℕ, List, [], Contains}
use Rattle.std.specs.Borrow.{Bor}
use Rattle.std.specs.Str.{byte}

-- the path is the front, the name, which has no slash, and nothing else or a slash and more
pub record IsNameAfter (front path name : List ℕ) : Type 0 where
  pub rest : List ℕ
  pub cut : path ≡ front ++ name ++ rest
  pub ends : (rest ≡ []) ⊎ ((inside : List ℕ) × (rest ≡ byte "/" ∷ inside))
  pub no_slash : ¬ Contains name (byte "/")

-- the name follows the front in one of the paths
abbrev pub HasNameAfter : List ℕ → List (Bor (List ℕ)) → List ℕ → Type 0
HasNameAfter front paths name =
    (path : Bor (List ℕ)) × Contains paths path × IsNameAfter front path.now name
