-- Paths in the order of their bytes (a word of this project).
use Rattle.std.specs.Prelude.{◌≡◌, ◌-◌, ℕ, List, Some, length, slice_get}
use Rattle.std.specs.Borrow.{Bor}
use Rattle.std.specs.Cmp.Lexicographic.{slice_cmp}
use Rattle.std.specs.Ordering.{nat_cmp}
use Rattle.std.specs.declared.cmp.Ordering.TheVariants.{Less}

-- the path comes after the last of the paths, if there are any
abbrev pub IsNext : List (Bor (List ℕ)) → List ℕ → Type 0
IsNext paths path = (last : Bor (List ℕ)) → slice_get paths (length paths - 1) ≡ Some last
    → slice_cmp nat_cmp last.now path ≡ Less

-- the path stands at the place
pub record IsAt (paths : List (Bor (List ℕ))) (path : List ℕ) (place : ℕ) : Type 0 where
  pub found : Bor (List ℕ)
  pub at_place : slice_get paths place ≡ Some found
  pub same : found.now ≡ path
