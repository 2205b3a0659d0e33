use Rattle.std.proofs.Common.{◌∙◌, sym}
use Rattle.it_dsse.proofs.Tries.{none_is_tried}
use Rattle.it_dsse.proofs.Trying.{raised-zero}
use Rattle.it_dsse.proofs.Vouching.{signed_found, not_signed}
use Rattle.it_dsse.proofs.signer.signer_by.Goals as goal

pub returns-then-vouched-clause-answer : goal.returns-then-vouched-clause-answer
returns-then-vouched-clause-answer g c =
    let panel = g.C.Checks.panel c.args.checks.now in
    signed_found panel c.args.envelope.now c.args.id.now c.args.object.now
    (g.C.Checks.number c.args.checks.now c.in-Some.key)
    c.in-Some.ensures.key
    (sym c.in_ok-vouched.ensures.answer ∙ c.if-vouched.true)

pub returns-else-vouched-clause-answer : goal.returns-else-vouched-clause-answer
returns-else-vouched-clause-answer g c =
    let panel = g.C.Checks.panel c.args.checks.now in
    not_signed panel c.args.envelope.now c.args.id.now c.args.object.now
    (g.C.Checks.number c.args.checks.now c.in-Some.key)
    c.in-Some.ensures.key
    (sym c.in_ok-vouched.ensures.answer ∙ c.if-vouched.false)

pub returns-then-not-any_admitted-clause-counted :
    goal.returns-then-not-any_admitted-clause-counted
returns-then-not-any_admitted-clause-counted g c =
    let panel = g.C.Checks.panel c.args.checks.now in
    rw (none_is_tried panel c.args.envelope.now c.args.id.now c.args.object.now
    (rw c.as_slice.ensures at c.if-not-any_admitted.ensures))
    (sym (raised-zero c.args.meter.now))
