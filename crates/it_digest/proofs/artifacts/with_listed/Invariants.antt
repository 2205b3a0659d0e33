use Rattle.std.proofs.Common.{◌≡◌, List, ◌++◌}
use Rattle.std.specs.FinMap.{from_entries}
use Rattle.it_digest.specs.Artifacts.{path_entries}
use Rattle.it_digest.specs.Listed.{AreTogether}
use Rattle.it_digest.proofs.ArtifactsLemmas.{Entry}
use Rattle.it_digest.proofs.artifacts.with_listed.Given as goal

-- what was added so far, and what is left
abbrev pub invariant-loop-path : goal.invariant-loop-path
invariant-loop-path l =
    (done : List Entry) × (l.by_path.entries ≡ done ++ l.path-iterator)
    × AreTogether l.fn.files (from_entries (path_entries done)) l.together
