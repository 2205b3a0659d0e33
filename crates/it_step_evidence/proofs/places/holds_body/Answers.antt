use Rattle.it_chain.specs.Candidate.{IsCandidate}
use Rattle.it_step_evidence.proofs.Counting.{holds_where, no_candidate, unsigned}
use Rattle.it_step_evidence.proofs.places.holds_body.Goals as goal

pub returns-in_default : goal.returns-in_default
returns-in_default g c =
    let panel = g.C.Checks.panel c.args.checks.now in (
      λ is. absurd (cc is),
      λ h. absurd (no_candidate panel c.args.step.now c.args.signer.now.id.now
          c.args.signer.now.object.now c.args.file.now
          (rw c.in_default.is at c.candidate_in.ensures) h),
    )

pub returns-then-not-signed : goal.returns-then-not-signed
returns-then-not-signed g c =
    let panel = g.C.Checks.panel c.args.checks.now in
    let envelope = c.in-Some.envelope.now in
    let is : IsCandidate c.args.file.now.bytes envelope = rw c.in-Some.is at c.candidate_in.ensures in (
      λ is_true. absurd (cc is_true),
      λ h. absurd (unsigned panel c.args.step.now c.args.signer.now.id.now
          c.args.signer.now.object.now c.args.file.now envelope is
          (λ signer. let signed = c.in_ok-signed.ensures.answer.1 signer in
          cc (signed, c.if-not-signed.true)) h),
    )

pub returns : goal.returns
returns g c =
    let panel = g.C.Checks.panel c.args.checks.now in
    let envelope = c.in-Some.envelope.now in
    let is : IsCandidate c.args.file.now.bytes envelope = rw c.in-Some.is at c.candidate_in.ensures in
    rw c.is_some.ensures (holds_where panel c.args.step.now c.args.signer.now.id.now
    c.args.signer.now.object.now c.args.file.now envelope is
    (c.in_ok-signed.ensures.answer.0 c.if-not-signed.false) c.in_ok-body.body
    (rw c.as_slice.ensures at c.in_ok-body.ensures))
