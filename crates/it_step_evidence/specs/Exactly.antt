-- Lists of texts that stand for sets (specific to this project).
use Rattle.std.specs.Prelude.{◌↔◌, ℕ, List, Contains}
use Rattle.std.specs.Cmp.Lexicographic.{slice_cmp}
use Rattle.std.specs.List.Sorted.{IsStrictlySortedBy}
use Rattle.std.specs.Ordering.{nat_cmp}

-- exactly the texts of which P holds, each once, in the order of their bytes
pub record AreExactly (P : List ℕ → Type 0) (texts : List (List ℕ)) : Type 0 where
  pub rises : IsStrictlySortedBy (slice_cmp nat_cmp) texts
  pub those : (text : List ℕ) → Contains texts text ↔ P text
