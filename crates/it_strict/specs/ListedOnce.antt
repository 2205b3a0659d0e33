-- Paths that one of two digest lists alone names (this project's choice). That both lists were made
-- from the same files cannot be seen; that they name the same paths can.
use Rattle.std.specs.Prelude.{◌≢◌, ◌↔◌, ℕ, Contains, List, [], map}
use Rattle.it_digest.specs.Artifacts.{ArtifactMap}
use Rattle.it_digest.specs.DigestSet.{in_sha256, in_sha512}
use Rattle.it_digest.specs.Sums.{SumsOf}
use Rattle.it_digest.specs.declared.sums.ListAlgorithm.{ListAlgorithm}
use Rattle.it_digest.specs.declared.sums.ListAlgorithm.TheVariants.{Sha256, Sha512}
use Rattle.it_rules.specs.Rules.{AreSorted, Stands}
use Rattle.it_strict.specs.declared.listed_once.ListedOnce.{ListedOnce}

-- the list by this algorithm names the path, and the other one does not
abbrev pub IsAloneIn : ListAlgorithm → ArtifactMap → ArtifactMap → List ℕ → Type 0
IsAloneIn Sha256 by_sha256 by_sha512 path = Stands by_sha256 path × ¬ Stands by_sha512 path
IsAloneIn Sha512 by_sha256 by_sha512 path = Stands by_sha512 path × ¬ Stands by_sha256 path

-- these are the paths that one of two digest lists alone names, each with the algorithm of that
-- list, in order; where a list is empty, there are none
pub record AreListedOnce (sums sums512 : List ℕ) (found : List ListedOnce) : Type 0 where
  pub by_sha256 : ArtifactMap
  pub by_sha512 : ArtifactMap
  pub first : SumsOf in_sha256 sums by_sha256
  pub second : SumsOf in_sha512 sums512 by_sha512
  pub in_order : AreSorted (map (λ once. once.path) found)
  pub exact : (once : ListedOnce) → Contains found once
      ↔ ((sums ≢ []) × (sums512 ≢ []) × IsAloneIn once.list by_sha256 by_sha512 once.path)
