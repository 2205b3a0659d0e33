-- What one line of a digest list does to the map of the lines before it.
use Rattle.std.specs.Prelude.{◌≡◌, ◌≢◌, ℕ, List, None}
use Rattle.std.specs.FinMap.{get, insert}
use Rattle.it_digest.specs.Artifacts.{ArtifactMap}
use Rattle.it_digest.specs.DigestSet.{Algorithm}
use Rattle.it_digest.specs.Sums.{IsSum}
use Rattle.it_digest.specs.declared.compare.DigestSet.{DigestSet}

-- a line adds its entry to a map that does not have its path
pub record AddsSum (algorithm : Algorithm) (line : List ℕ) (old new : ArtifactMap) : Type 0 where
  pub entry : List ℕ × DigestSet
  pub is_sum : IsSum algorithm line entry
  pub is_new : get old entry.0 ≡ None
  pub added : new ≡ insert old entry.0 entry.1

-- the map already has the path of each entry that the line gives
abbrev pub AddsNothing : Algorithm → List ℕ → ArtifactMap → Type 0
AddsNothing algorithm line sums =
    (entry : List ℕ × DigestSet) → IsSum algorithm line entry → get sums entry.0 ≢ None
