use Rattle.std.proofs.Common.{◌≡◌, ◌++◌, ℕ, List}
use Rattle.std.specs.FinMap.{entries}
use Rattle.it_digest.specs.Artifacts.{path_entries}
use Rattle.it_digest.specs.declared.compare.DigestSet.{DigestSet}
use Rattle.it_prov.specs.ProvenanceLines.{AreReadFrom}
use Rattle.it_file_evidence.specs.inside.Proven.{AreEvidence}
use Rattle.it_file_evidence.proofs.evidence.evidence_among.Given as goal

-- what stands for the files so far, and what is left follows
abbrev pub invariant-loop-path : goal.invariant-loop-path
invariant-loop-path g l =
    (done : List (List ℕ × DigestSet))
    × (entries l.delivered ≡ done ++ path_entries l.path-iterator)
    × ((texts : List (List ℕ))
    → AreReadFrom 1 texts l.attestations.envelopes.now l.lines.places.now
    → AreEvidence (g.C.Checks.panel l.attestations.checks.now) l.attestations.expectations.now
    l.lines.vouched.now texts l.attestations.envelopes.now done l.found.items)
