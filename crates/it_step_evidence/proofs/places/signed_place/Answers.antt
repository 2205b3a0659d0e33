use Rattle.std.proofs.lemmas.Result.{IfOk-weaker}
use Rattle.it_base.specs.Finds.{Finds}
use Rattle.it_chain.specs.Candidate.{IsCandidate}
use Rattle.it_step_evidence.specs.inside.Counting.{HoldsAt}
use Rattle.it_valid_signatures.specs.FirstPlace.{IsSignedAt}
use Rattle.it_step_evidence.proofs.Counting.{held_body, held_where, no_candidate}
use Rattle.it_step_evidence.proofs.places.signed_place.Goals as goal

pub returns-in_default : goal.returns-in_default
returns-in_default g c = λ place held.
    let panel = g.C.Checks.panel c.args.checks.now in
    no_candidate panel c.args.step.now c.args.signer.now.id.now c.args.signer.now.object.now
    c.args.file.now (rw c.in_default.is at c.candidate_in.ensures)
    (held_body panel c.args.step.now c.args.signer.now.id.now c.args.signer.now.object.now
    c.args.file.now place held)

pub returns-then-not-holds : goal.returns-then-not-holds
returns-then-not-holds g c = λ place held.
    let panel = g.C.Checks.panel c.args.checks.now in
    let is = c.in_ok-holds.ensures.1 (held_body panel c.args.step.now c.args.signer.now.id.now
    c.args.signer.now.object.now c.args.file.now place held) in
    cc (is, c.if-not-holds.true)

pub returns : goal.returns
returns g c =
    let panel = g.C.Checks.panel c.args.checks.now in
    let id = c.args.signer.now.id.now in
    let object = c.args.signer.now.object.now in
    let envelope = c.in-Some.envelope.now in
    let is : IsCandidate c.args.file.now.bytes envelope = rw c.in-Some.is at c.candidate_in.ensures in
    IfOk-weaker c.signature_place.result (Finds (IsSignedAt panel envelope id object))
    (Finds (HoldsAt panel c.args.step.now id object c.args.file.now))
    (held_where panel c.args.step.now id object c.args.file.now envelope is
    (c.in_ok-holds.ensures.0 c.if-not-holds.false)) c.signature_place.ensures
