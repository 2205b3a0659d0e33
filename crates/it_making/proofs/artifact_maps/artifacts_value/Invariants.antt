use Rattle.std.proofs.Common.{◌≡◌, List, ◌++◌}
use Rattle.std.specs.FinMap.{entries}
use Rattle.std.specs.List.{AllByRecursion}
use Rattle.serde_json.specs.View.{members_view}
use Rattle.it_digest.specs.Artifacts.{path_entries}
use Rattle.it_digest.specs.Digest.{IsDigestSet}
use Rattle.it_digest.specs.declared.compare.DigestSet.{DigestSet}
use Rattle.it_making.specs.ArtifactDocuments.{digest_set_document, entry_members}
use Rattle.it_making.proofs.TablesWritten.{Entry}
use Rattle.it_making.proofs.artifact_maps.artifacts_value.Given as goal

-- what was put so far, and what is left
abbrev pub invariant-loop-path : goal.invariant-loop-path
invariant-loop-path l =
    (done : List (Entry DigestSet))
    × (entries l.artifacts ≡ done ++ path_entries l.path-iterator)
    × (members_view l.members.entries ≡ entry_members digest_set_document done)
    × AllByRecursion (λ e. IsDigestSet (digest_set_document e.1) e.1) done
