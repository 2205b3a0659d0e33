use Rattle.std.proofs.Common.{◌∙◌, map, sym}
use Rattle.it_dsse.specs.Panel.{panel_of}
use Rattle.it_dsse.proofs.Tries.{none_is_tried}
use Rattle.it_dsse.proofs.Trying.{raised-zero}
use Rattle.it_dsse.proofs.Vouching.{signed_found, not_signed}
use Rattle.it_dsse.proofs.signer_key.signed_by.Goals as goal

pub returns-then-vouched-clause-answer : goal.returns-then-vouched-clause-answer
returns-then-vouched-clause-answer g c =
    let panel = panel_of
    (map (λ check. (goal.SignatureCheck-dyn g (check.vtable, check.value)).meaning check.value)
    c.args.panel.now) in
    signed_found panel c.args.envelope.now c.args.id.now c.args.object.now
    (c.in-Some.key)
    c.in-Some.ensures.key
    (sym c.is_vouched_in-vouched.ensures.answer ∙ c.if-vouched.true)

pub returns-else-vouched-clause-answer : goal.returns-else-vouched-clause-answer
returns-else-vouched-clause-answer g c =
    let panel = panel_of
    (map (λ check. (goal.SignatureCheck-dyn g (check.vtable, check.value)).meaning check.value)
    c.args.panel.now) in
    not_signed panel c.args.envelope.now c.args.id.now c.args.object.now
    (c.in-Some.key)
    c.in-Some.ensures.key
    (sym c.is_vouched_in-vouched.ensures.answer ∙ c.if-vouched.false)

pub returns-then-not-any_admitted-clause-counted :
    goal.returns-then-not-any_admitted-clause-counted
returns-then-not-any_admitted-clause-counted g c =
    let panel = panel_of
    (map (λ check. (goal.SignatureCheck-dyn g (check.vtable, check.value)).meaning check.value)
    c.args.panel.now) in
    rw (none_is_tried panel c.args.envelope.now c.args.id.now c.args.object.now
    (rw c.as_slice.ensures at c.if-not-any_admitted.ensures))
    (sym (raised-zero c.args.meter.now))
