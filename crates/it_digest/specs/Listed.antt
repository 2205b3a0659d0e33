-- The files that two digest lists describe together, one by SHA-256 and one by SHA-512 (this
-- profile's choice). That both were made from the same files is the premise of whoever hands them
-- in.
use Rattle.std.specs.Prelude.{◌≡◌, ℕ, List, Option, Some, None}
use Rattle.std.specs.FinMap.{get}
use Rattle.it_digest.specs.declared.compare.DigestSet.{DigestSet}
use Rattle.it_digest.specs.declared.listed.BadLine.{BadLine}
use Rattle.it_digest.specs.declared.listed.BadLine.TheVariants.{InSha256, InSha512}
use Rattle.it_digest.specs.declared.listed.ListsFault.{ListsFault}
use Rattle.it_digest.specs.declared.listed.ListsFault.TheVariants.{Bad, OutOfMemory}
use Rattle.it_digest.specs.Artifacts.{ArtifactMap}
use Rattle.it_digest.specs.DigestSet.{in_sha256, in_sha512}
use Rattle.it_digest.specs.Sums.{IsFirstBadLine, SumsOf}

-- what two lists say of one path: the digests of the list that has it, or those of both
abbrev pub listed_digests : Option DigestSet → Option DigestSet → Option DigestSet
listed_digests None listed = listed
listed_digests (Some digests) None = Some digests
listed_digests (Some digests) (Some listed) = Some (record digests { sha512 = listed.sha512 })

-- a path is in the map that two maps make together where it is in either of them
abbrev pub AreTogether : ArtifactMap → ArtifactMap → ArtifactMap → Type 0
AreTogether by_sha256 by_sha512 files =
    (path : List ℕ) → get files path ≡ listed_digests (get by_sha256 path) (get by_sha512 path)

-- the files that two digest lists describe together
pub record AreListed (sums sums512 : List ℕ) (files : ArtifactMap) : Type 0 where
  pub by_sha256 : ArtifactMap
  pub by_sha512 : ArtifactMap
  pub first : SumsOf in_sha256 sums by_sha256
  pub second : SumsOf in_sha512 sums512 by_sha512
  pub are_both : AreTogether by_sha256 by_sha512 files

-- the first bad line of two lists: that of the first, or, where the first has none, that of the
-- second
abbrev pub IsFirstBadIn : List ℕ → List ℕ → BadLine → Type 0
IsFirstBadIn sums sums512 (InSha256 line) = IsFirstBadLine in_sha256 sums line
IsFirstBadIn sums sums512 (InSha512 line) =
    ((files : ArtifactMap) × SumsOf in_sha256 sums files) × IsFirstBadLine in_sha512 sums512 line

-- a fault names such a line, unless memory was refused
abbrev pub NamesLine : (BadLine → Type 0) → ListsFault → Type 0
NamesLine IsBad (Bad line) = IsBad line
NamesLine IsBad OutOfMemory = Unit {0}
