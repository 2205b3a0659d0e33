use Rattle.std.proofs.Common.{◌≡◌, List, ◌++◌}
use Rattle.std.specs.FinMap.{from_entries}
use Rattle.it_digest.specs.Artifacts.{path_entries}
use Rattle.it_digest.proofs.ArtifactsLemmas.{Entry}
use Rattle.it_digest.proofs.artifacts.map_of.Given as goal

-- what was copied so far, and what is left
abbrev pub invariant-loop-path : goal.invariant-loop-path
invariant-loop-path l =
    (done : List Entry) × (l.by_path.entries ≡ done ++ l.path-iterator)
    × (l.map ≡ from_entries (path_entries done))
