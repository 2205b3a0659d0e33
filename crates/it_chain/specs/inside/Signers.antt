-- The key ids that may sign for a step, as the functions list them. Nothing here is trusted.
use Rattle.std.specs.Prelude.{◌↔◌, ℕ, List, Contains}
use Rattle.std.specs.Cmp.Lexicographic.{slice_cmp}
use Rattle.std.specs.List.Sorted.{IsStrictlySortedBy}
use Rattle.std.specs.Ordering.{nat_cmp}

-- the same ids, each once and in the order of their bytes
pub record AreIds (ids sorted : List (List ℕ)) : Type 0 where
  pub rises : IsStrictlySortedBy (slice_cmp nat_cmp) sorted
  pub same : (id : List ℕ) → Contains sorted id ↔ Contains ids id
