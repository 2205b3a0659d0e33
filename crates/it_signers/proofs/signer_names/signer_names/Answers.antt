use Rattle.std.proofs.Common.{◌≡◌, ◌∷◌, ◌∙◌, true, map, string_bytes, ap, subst}
use Rattle.std.proofs.lemmas.List.{map-append}
use Rattle.it_base.specs.Table.{named_entries}
use Rattle.it_dsse.specs.Panel.{Panel}
use Rattle.it_signers.specs.SignersOutput.{HasSigned}
use Rattle.it_signers.proofs.Naming.{AreNamesSoFar, Entry, name_more, names_done}
use Rattle.it_signers.proofs.Naming.{names_start, pass_more}
use Rattle.it_signers.proofs.signer_names.signer_names.Goals as goal

pub loop-id-init : goal.loop-id-init
loop-id-init g c =
    rw c.new-names.ensures.items
    (names_start (g.C.Checks.panel c.args.checks.now) c.args.objects.now c.args.envelope.now
    (named_entries c.into_iter-id-iterator.result)
    (ap named_entries c.into_iter-id-iterator.ensures.into_iter_gives ∙ c.iter-id-items.ensures))

pub loop-id-preserved-in_ok-push : goal.loop-id-preserved-in_ok-push
loop-id-preserved-in_ok-push g c =
    let at = c.loop-id in
    let panel : Panel = g.C.Checks.panel c.args.checks.now in
    let entry : Entry = (string_bytes c.in-Some.id.now, c.in-Some.object.now) in
    let left = named_entries c.next.new.self in
    let steps : named_entries at.id-iterator ≡ entry ∷ left =
    ap named_entries c.in-Some.ensures.steps in
    let names = map string_bytes at.names.items in
    let same : string_bytes c.in_ok-from_str.field-0 ≡ entry.0 =
    c.in_ok-from_str.ensures.ok ∙ c.as_str-text.ensures.value in
    let signed : HasSigned panel c.args.envelope.now entry =
    rw c.as_str-text.ensures.value at (c.in_ok-signed.ensures.answer.0 c.if-signed.true) in
    rw (c.in_ok-push.ensures.items, map-append, same)
    (name_more panel c.args.objects.now c.args.envelope.now entry left names
    (subst (λ rest. AreNamesSoFar panel c.args.objects.now c.args.envelope.now rest names) steps
    at.invariant) signed)

pub loop-id-preserved : goal.loop-id-preserved
loop-id-preserved g c =
    let at = c.loop-id in
    let panel : Panel = g.C.Checks.panel c.args.checks.now in
    let entry : Entry = (string_bytes c.in-Some.id.now, c.in-Some.object.now) in
    let left = named_entries c.next.new.self in
    let steps : named_entries at.id-iterator ≡ entry ∷ left =
    ap named_entries c.in-Some.ensures.steps in
    let names = map string_bytes at.names.items in
    let refuses : ¬ HasSigned panel c.args.envelope.now entry =
    λ signed. (let is : c.in_ok-signed.signed ≡ true = c.in_ok-signed.ensures.answer.1
    (rw c.as_str-text.ensures.value signed) in cc (is, c.if-signed.false)) in
    pass_more panel c.args.objects.now c.args.envelope.now entry left names
    (subst (λ rest. AreNamesSoFar panel c.args.objects.now c.args.envelope.now rest names) steps
    at.invariant) refuses

pub returns : goal.returns
returns g c =
    let names = map string_bytes c.loop-id.names.items in
    names_done (g.C.Checks.panel c.args.checks.now) c.args.objects.now c.args.envelope.now names
    (subst (λ rest. AreNamesSoFar (g.C.Checks.panel c.args.checks.now) c.args.objects.now
    c.args.envelope.now rest names) (ap named_entries c.in-None.ensures.steps.0)
    c.loop-id.invariant)
