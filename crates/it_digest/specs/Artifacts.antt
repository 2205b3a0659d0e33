-- Artifact maps: finite maps from the bytes of a path to its digest set.
use Rattle.std.specs.Prelude.{ℕ, List, String}
use Rattle.std.specs.declared.alloc.Global.{Global}
use Rattle.it_base.specs.Table.{Named, named_entries}
use Rattle.it_digest.specs.declared.compare.DigestSet.{DigestSet}

-- paths are compared by their bytes
abbrev pub ArtifactMap : Type 0
ArtifactMap = Named DigestSet

-- entries, each with its path as bytes
abbrev pub path_entries : List (String Global × DigestSet) → List (List ℕ × DigestSet)
path_entries entries = named_entries entries
