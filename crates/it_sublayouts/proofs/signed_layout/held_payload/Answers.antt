use Rattle.std.proofs.Common.{subst}
use Rattle.it_dsse.specs.Signed.{IsSigner}
use Rattle.it_dsse.specs.declared.envelope.Envelope.{Envelope}
use Rattle.it_chain.specs.Candidate.{IsCandidate}
use Rattle.it_sublayouts.proofs.Files.{same_envelope_of}
use Rattle.it_sublayouts.proofs.signed_layout.held_payload.Goals as goal

pub returns-in_default : goal.returns-in_default
returns-in_default g c = λ payload is.
    (rw c.in_default.is at c.candidate_in.ensures) is.envelope is.is_candidate

pub returns-then-not-signed : goal.returns-then-not-signed
returns-then-not-signed g c = λ payload is.
    let panel = g.C.Checks.panel c.args.checks.now in
    let signer = c.args.signer.now in
    let bytes = c.args.file.now.bytes in
    let envelope = c.in-Some.envelope.now in
    let reads : IsCandidate bytes envelope = rw c.in-Some.is at c.candidate_in.ensures in
    let same = same_envelope_of bytes is.envelope envelope is.is_candidate reads in
    let signs = c.in_ok-signed.ensures.answer.1
    (subst (λ (e : Envelope). IsSigner panel e signer.object.now signer.id.now) same is.signs) in
    cc (signs, c.if-not-signed.true)

pub returns : goal.returns
returns g c =
    let reads : IsCandidate c.args.file.now.bytes c.in-Some.envelope.now =
    rw c.in-Some.is at c.candidate_in.ensures in
    record {
      envelope = c.in-Some.envelope.now;
      is_candidate = reads;
      signs = c.in_ok-signed.ensures.answer.0 c.if-not-signed.false;
      payload_is = c.as_slice.ensures;
    }
