-- Sorted files, and their paths beside them.
use Rattle.std.specs.Prelude.{◌≡◌, ℕ, List, map}
use Rattle.std.specs.Borrow.{Bor}
use Rattle.it_rules.specs.Ranges.{AreInOrder}
use Rattle.it_memory.specs.declared.file.File.{File}

-- the paths are those of the files, in the order of their bytes, all different
pub record AreOrdered (files : List File) (paths : List (Bor (List ℕ))) : Type 0 where
  pub in_order : AreInOrder paths
  pub same : map (λ path. path.now) paths ≡ map (λ file. file.path.now) files
