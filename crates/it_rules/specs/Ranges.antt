-- Ranges of sorted paths: of those that begin with a front, and of those that something holds of.
use Rattle.std.specs.Prelude.{◌≡◌, ◌↔◌, ℕ, ◌≤◌, ◌<◌, List, length, Some, AllPairs}
use Rattle.std.specs.Borrow.{Bor}
use Rattle.std.specs.List.{slice_get}
use Rattle.std.specs.Ordering.{nat_cmp}
use Rattle.std.specs.Cmp.Lexicographic.{slice_cmp}
use Rattle.std.specs.declared.cmp.Ordering.TheVariants.{Less}
use Rattle.it_glob.specs.Pattern.{BeginsWith}

-- paths in the order of their bytes, all different
abbrev pub AreInOrder : List (Bor (List ℕ)) → Type 0
AreInOrder paths = AllPairs (λ a b. slice_cmp nat_cmp a.now b.now ≡ Less) paths

-- the paths that begin with a front are exactly those at the places from start to end - 1
pub record IsFrontRange (paths : List (Bor (List ℕ))) (front : List ℕ) (start end : ℕ)
    : Type 0 where
  pub start_first : start ≤ end
  pub within : end ≤ length paths
  pub exact : (i : ℕ) (path : Bor (List ℕ)) → slice_get paths i ≡ Some path
      → BeginsWith path.now front ↔ ((start ≤ i) × (i < end))

-- each path for which P holds is at one of the places from start to end - 1
pub record Covers (P : List ℕ → Type 0) (paths : List (Bor (List ℕ))) (start end : ℕ) : Type 0 where
  pub start_first : start ≤ end
  pub within : end ≤ length paths
  pub covers : (i : ℕ) (path : Bor (List ℕ)) → slice_get paths i ≡ Some path → P path.now
      → (start ≤ i) × (i < end)
