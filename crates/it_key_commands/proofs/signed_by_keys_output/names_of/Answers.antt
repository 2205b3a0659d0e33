use Rattle.std.proofs.Common.{◌≡◌, ◌∷◌, ◌∙◌, true, map, string_bytes, ap, subst}
use Rattle.std.proofs.lemmas.List.{map-append}
use Rattle.it_base.specs.Table.{named_entries}
use Rattle.it_key_commands.specs.Signers.{SignedUnder}
use Rattle.it_key_commands.proofs.Naming.{AreNamesSoFar, Entry, name_more, names_done}
use Rattle.it_key_commands.proofs.Naming.{names_start, pass_more}
use Rattle.it_key_commands.proofs.signed_by_keys_output.names_of.Goals as goal

pub loop-id-init : goal.loop-id-init
loop-id-init c =
    rw c.new-names.ensures.items
    (names_start c.args.objects.now c.args.message.now c.args.signatures.now
    (named_entries c.into_iter-id-iterator.result)
    (ap named_entries c.into_iter-id-iterator.ensures.into_iter_gives ∙ c.iter-id-items.ensures))

pub loop-id-preserved-in_ok-push : goal.loop-id-preserved-in_ok-push
loop-id-preserved-in_ok-push c =
    let at = c.loop-id in
    let entry : Entry = (string_bytes c.in-Some.id.now, c.in-Some.object.now) in
    let left = named_entries c.next.new.self in
    let steps : named_entries at.id-iterator ≡ entry ∷ left =
    ap named_entries c.in-Some.ensures.steps in
    let names = map string_bytes at.names.items in
    let same : string_bytes c.in_ok-from_str.field-0 ≡ entry.0 =
    c.in_ok-from_str.ensures.ok ∙ c.as_str-text.ensures.value in
    let signed : SignedUnder c.args.message.now c.args.signatures.now entry =
    rw c.as_str-text.ensures.value at (c.is_signed_under.ensures.0 c.if-is_signed_under.true) in
    rw (c.in_ok-push.ensures.items, map-append, same)
    (name_more c.args.objects.now c.args.message.now c.args.signatures.now entry left names
    (subst (λ rest. AreNamesSoFar c.args.objects.now c.args.message.now c.args.signatures.now rest
    names) steps at.invariant) signed)

pub loop-id-preserved : goal.loop-id-preserved
loop-id-preserved c =
    let at = c.loop-id in
    let entry : Entry = (string_bytes c.in-Some.id.now, c.in-Some.object.now) in
    let left = named_entries c.next.new.self in
    let steps : named_entries at.id-iterator ≡ entry ∷ left =
    ap named_entries c.in-Some.ensures.steps in
    let names = map string_bytes at.names.items in
    let refuses : ¬ SignedUnder c.args.message.now c.args.signatures.now entry =
    λ signed. (let is : c.is_signed_under.result ≡ true = c.is_signed_under.ensures.1
    (rw c.as_str-text.ensures.value signed) in cc (is, c.if-is_signed_under.false)) in
    pass_more c.args.objects.now c.args.message.now c.args.signatures.now entry left names
    (subst (λ rest. AreNamesSoFar c.args.objects.now c.args.message.now c.args.signatures.now rest
    names) steps at.invariant) refuses

pub returns : goal.returns
returns c =
    let names = map string_bytes c.loop-id.names.items in
    names_done c.args.objects.now c.args.message.now c.args.signatures.now names
    (subst (λ rest. AreNamesSoFar c.args.objects.now c.args.message.now c.args.signatures.now rest
    names) (ap named_entries c.in-None.ensures.steps.0) c.loop-id.invariant)
