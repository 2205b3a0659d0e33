use Rattle.std.proofs.Common.{◌≡◌, ◌∙◌, ◌++◌, ◌∷◌, [], ℕ, List, append-nil, append_assoc, ap}
use Rattle.std.proofs.Common.{string_bytes, subst, sym}
use Rattle.std.specs.FinMap.{entries}
use Rattle.it_digest.specs.Artifacts.{path_entries}
use Rattle.it_digest.specs.declared.compare.DigestSet.{DigestSet}
use Rattle.it_file_evidence.specs.inside.Proven.{AreEvidence}
use Rattle.it_file_evidence.proofs.FilesEvident.{evidence_more, no_evidence}
use Rattle.it_file_evidence.proofs.evidence.evidence_among.Goals as goal

pub loop-path-init : goal.loop-path-init
loop-path-init g c =
    let a = c.args.attestations.now in
    let panel = g.C.Checks.panel a.checks.now in (
      [],
      sym (ap path_entries c.into_iter-path-iterator.ensures.into_iter_gives
          ∙ c.iter-path-items.ensures),
      λ lines read. rw c.new-found.ensures.items
          (no_evidence panel a.expectations.now c.args.lines.now.vouched.now lines
          a.envelopes.now),
    )

pub loop-path-preserved : goal.loop-path-preserved
loop-path-preserved g c =
    let a = c.args.attestations.now in
    let panel = g.C.Checks.panel a.checks.now in
    let file : List ℕ × DigestSet = (string_bytes c.in-Some.path.now, c.in-Some.digests.now) in
    let inv = c.loop-path.invariant in
    let left = path_entries c.next.new.self in (
      inv.0 ++ file ∷ [],
      inv.1 ∙ ap (λ es. inv.0 ++ path_entries es) c.in-Some.ensures.steps
          ∙ sym (append_assoc inv.0 (file ∷ []) left),
      λ lines read. rw c.in_ok-push_some.ensures
          (evidence_more panel a.expectations.now c.args.lines.now.vouched.now lines
          a.envelopes.now inv.0
          c.loop-path.found.items file c.in_ok-one.one (inv.2 lines read)
          (rw (c.as_str.ensures.value, c.set.ensures) at (c.in_ok-one.ensures lines read))),
    )

pub returns : goal.returns
returns g c =
    let a = c.args.attestations.now in
    let panel = g.C.Checks.panel a.checks.now in
    let inv = c.loop-path.invariant in
    let whole : entries c.args.delivered.now ≡ inv.0 =
    inv.1 ∙ ap (λ es. inv.0 ++ path_entries es) c.in-None.ensures.steps.0 ∙ append-nil inv.0 in
    λ lines read. subst (λ files. AreEvidence panel a.expectations.now
    c.args.lines.now.vouched.now lines a.envelopes.now files c.loop-path.found.items) (sym whole)
    (inv.2 lines read)
