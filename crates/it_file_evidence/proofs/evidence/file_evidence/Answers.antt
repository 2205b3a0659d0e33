use Rattle.std.proofs.Common.{List, ℕ}
use Rattle.std.specs.FinMap.{entries}
use Rattle.std.specs.List.{AllZip}
use Rattle.std.proofs.lemmas.Result.{IfOk-weaker}
use Rattle.it_digest.specs.Sums.{lines_of}
use Rattle.it_prov.proofs.ReadLines.{places_many}
use Rattle.it_prov.specs.ProvenanceLines.{AreReadFrom}
use Rattle.it_file_evidence.specs.FileEvidence.{AreFileEvidence, IsFileEvidence}
use Rattle.it_file_evidence.specs.inside.Proven.{AreEvidence}
use Rattle.it_file_evidence.proofs.FilesEvident.{all_evidence, are_evidence}
use Rattle.it_file_evidence.proofs.evidence.file_evidence.Goals as goal

pub evidence_among-requires-clause-places : goal.evidence_among-requires-clause-places
evidence_among-requires-clause-places g c =
    let lines = c.args.grounds.now.lines in
    rw (
      c.as_slice-3.ensures.value,
      c.in_ok-attestations.ensures.envelopes,
      c.as_slice-2.ensures.value,
    ) (places_many 1 (lines_of c.requires.0) lines.envelopes.items lines.places.items c.requires.1)

pub returns-clause-files : goal.returns-clause-files
returns-clause-files g c =
    let a = c.in_ok-attestations.attestations in
    let panel = g.C.Checks.panel c.args.checks.now in
    let documents = c.args.grounds.now.documents in
    let places = c.as_slice-3.result.now in
    let vouched = c.args.vouched.now in
    λ inputs are_lines.
    let read : AreReadFrom 1 (lines_of inputs.provenance) a.envelopes.now places = rw (
      c.as_slice-3.ensures.value,
      c.in_ok-attestations.ensures.envelopes,
      c.as_slice-2.ensures.value,
    ) are_lines in
    IfOk-weaker c.evidence_among.result
    (λ found. (texts : List (List ℕ)) → AreReadFrom 1 texts a.envelopes.now places
    → AreEvidence (g.C.Checks.panel a.checks.now) a.expectations.now vouched texts
    a.envelopes.now (entries documents.delivered) found.items)
    (λ found. AreFileEvidence panel vouched inputs documents found.items)
    (λ found are. are_evidence panel inputs documents a.envelopes.now places read vouched found.items
    (rw (
      c.in_ok-attestations.ensures.checks,
      c.in_ok-attestations.ensures.expectations,
      c.in_ok-asked.ensures,
      c.as_slice.ensures,
    ) at (are (lines_of inputs.provenance) read))) c.evidence_among.ensures

pub returns-clause-made : goal.returns-clause-made
returns-clause-made g c =
    let a = c.in_ok-attestations.attestations in
    let panel = g.C.Checks.panel c.args.checks.now in
    let documents = c.args.grounds.now.documents in
    let places = c.as_slice-3.result.now in
    let vouched = c.args.vouched.now in
    λ inputs are_grounds.
    let read : AreReadFrom 1 (lines_of inputs.provenance) a.envelopes.now places = rw (
      c.as_slice-3.ensures.value,
      c.in_ok-attestations.ensures.envelopes,
      c.as_slice-2.ensures.value,
    ) are_grounds.lines in
    IfOk-weaker c.evidence_among.result
    (λ found. (texts : List (List ℕ)) → AreReadFrom 1 texts a.envelopes.now places
    → AreEvidence (g.C.Checks.panel a.checks.now) a.expectations.now vouched texts
    a.envelopes.now (entries documents.delivered) found.items)
    (λ found. AllZip (IsFileEvidence panel vouched (lines_of inputs.provenance)
    documents.policy.expectations) (entries documents.delivered) found.items)
    (λ found are. all_evidence panel inputs documents a.envelopes.now places read vouched found.items
    (rw (
      c.in_ok-attestations.ensures.checks,
      c.in_ok-attestations.ensures.expectations,
      c.in_ok-asked.ensures,
      c.as_slice.ensures,
    ) at (are (lines_of inputs.provenance) read)) c.args.grounds.now.evidence are_grounds.made)
    c.evidence_among.ensures
