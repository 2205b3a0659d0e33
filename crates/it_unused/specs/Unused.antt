-- Which expectations of a policy are unused in a delivery. To a delivered file that expectation
-- applies which is the first whose pattern matches its path (this profile's choice).
use Rattle.std.specs.FinMap.{keys}
use Rattle.std.specs.List.{slice_get}
use Rattle.std.specs.Prelude.{◌≡◌, ◌↔◌, ◌<◌, ℕ, List, Some, take, AllPairs, Any, Contains}
use Rattle.it_digest.specs.Artifacts.{ArtifactMap}
use Rattle.it_docs.specs.declared.policy.Expectation.{Expectation}
use Rattle.it_prov.specs.Fits.{SpeaksOf}

-- earlier expectations leave nothing to the one at a place: its pattern matches some delivered
-- path, and each delivered path that it matches is matched by the pattern of an earlier one
pub record IsUnused (expectations : List Expectation) (delivered : ArtifactMap) (place : ℕ)
    : Type 0 where
  pub expectation : Expectation
  pub stands : slice_get expectations place ≡ Some expectation
  pub speaks : Any (λ path. SpeaksOf path expectation) (keys delivered)
  pub taken : (path : List ℕ) → Contains (keys delivered) path → SpeaksOf path expectation
      → Any (SpeaksOf path) (take place expectations)

-- these are the places of the expectations that are unused, in their order
pub record AreUnused (expectations : List Expectation) (delivered : ArtifactMap)
    (places : List ℕ) : Type 0 where
  pub in_order : AllPairs (λ one other. one < other) places
  pub exact : (place : ℕ) → Contains places place ↔ IsUnused expectations delivered place
