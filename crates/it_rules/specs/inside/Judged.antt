-- An artifact that a rule is judged on, with what the judged side has for it. Nothing here is
-- trusted.
use Rattle.std.specs.Prelude.{◌≡◌, ℕ, List, length, Some, option_map}
use Rattle.std.specs.Borrow.{Bor}
use Rattle.std.specs.FinMap.{get}
use Rattle.std.specs.List.{slice_get}
use Rattle.it_digest.specs.Artifacts.{ArtifactMap}
use Rattle.it_digest.specs.declared.compare.DigestSet.{DigestSet}
use Rattle.it_rules.specs.Item.{artifacts_on, recorded_of}
use Rattle.it_rules.specs.declared.judged.JudgedArtifact.{JudgedArtifact}

-- its digests are those on the side that is judged
abbrev pub HasDigests : JudgedArtifact → Type 0
HasDigests judged =
    option_map (λ digests. digests.now) judged.digests
    ≡ get (artifacts_on judged.side (recorded_of judged.item.now)) judged.path.now

-- each of these paths has the digests at its place in a map
pub record AreDigestsOf (artifacts : ArtifactMap) (paths : List (Bor (List ℕ)))
    (digests : List (Bor DigestSet)) : Type 0 where
  pub lengths : length digests ≡ length paths
  pub each : (place : ℕ) (path : Bor (List ℕ)) (found : Bor DigestSet)
      → slice_get paths place ≡ Some path → slice_get digests place ≡ Some found
      → get artifacts path.now ≡ Some found.now
