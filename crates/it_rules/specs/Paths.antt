-- The paths of a map, in the order of their bytes.
use Rattle.std.specs.Prelude.{◌≡◌, ◌↔◌, ℕ, List, Some, All}
use Rattle.std.specs.Borrow.{Bor}
use Rattle.std.specs.List.{slice_get}
use Rattle.std.specs.Str.{IsUtf8}
use Rattle.it_digest.specs.Artifacts.{ArtifactMap}
use Rattle.it_rules.specs.Ranges.{AreInOrder}
use Rattle.it_rules.specs.Rules.{Stands}

-- texts in the order of their bytes, all different
pub record ArePaths (paths : List (Bor (List ℕ))) : Type 0 where
  pub in_order : AreInOrder paths
  pub are_texts : All (λ path. IsUtf8 path.now) paths

-- a path is at some place
pub record IsListed (paths : List (Bor (List ℕ))) (path : List ℕ) : Type 0 where
  pub place : ℕ
  pub lent : Bor (List ℕ)
  pub stands : slice_get paths place ≡ Some lent
  pub is_path : lent.now ≡ path

-- these are the paths of a map
pub record ArePathsOf (artifacts : ArtifactMap) (paths : List (Bor (List ℕ))) : Type 0 where
  pub are_paths : ArePaths paths
  pub whole : (path : List ℕ) → IsListed paths path ↔ Stands artifacts path
