use Rattle.std.proofs.Common.{◌≡◌, List, ◌++◌, map}
use Rattle.std.specs.FinMap.{entries}
use Rattle.std.specs.List.{AllByRecursion}
use Rattle.serde_json.specs.View.{view}
use Rattle.it_digest.specs.Artifacts.{path_entries}
use Rattle.it_digest.specs.Digest.{IsDigestSet}
use Rattle.it_digest.specs.declared.compare.DigestSet.{DigestSet}
use Rattle.it_making.specs.ArtifactDocuments.{digest_set_document}
use Rattle.it_making.specs.StatementOutput.{subject_document}
use Rattle.it_making.proofs.TablesWritten.{Entry}
use Rattle.it_making.proofs.subjects.subjects_value.Given as goal

-- the subjects so far, and what is left
abbrev pub invariant-loop-path : goal.invariant-loop-path
invariant-loop-path l =
    (done : List (Entry DigestSet))
    × (entries l.artifacts ≡ done ++ path_entries l.path-iterator)
    × (map view l.subjects.items ≡ map subject_document done)
    × AllByRecursion (λ e. IsDigestSet (digest_set_document e.1) e.1) done
