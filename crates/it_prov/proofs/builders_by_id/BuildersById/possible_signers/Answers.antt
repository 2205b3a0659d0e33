use Rattle.std.proofs.Common.{◌≡◌, ◌∙◌, ◌<◌, ◌++◌, ◌∷◌, [], Contains, IfOk, ap, length, sym, subst, take, take_all}
use Rattle.std.proofs.lemmas.List.{take_more}
use Rattle.std.proofs.lemmas.Option.{slice_get_within}
use Rattle.std.proofs.lemmas.Result.{IfOk-weaker}
use Rattle.it_prov.proofs.Possible.{AreHinted, hinted_more, hinted_possible, not_empty}
use Rattle.it_prov.proofs.builders_by_id.BuildersById.possible_signers.Goals as goal

pub returns-then-is_empty : goal.returns-then-is_empty
returns-then-is_empty c =
    let builders = c.args.self.now.builders.items in
    IfOk-weaker c.all_places.result _ _
    (λ places all place builder stands can.
    all place (rw c.as_slice.ensures.value (slice_get_within builders place builder stands)))
    c.all_places.ensures

pub loop-signature-preserved : goal.loop-signature-preserved
loop-signature-preserved c =
    let ids = c.args.self.now.ids in
    let signatures = c.as_slice-signature-items.result.now in
    let i = c.loop-signature.signature-index in
    let signature = c.signature-item.result in
    let places = c.loop-signature.places.items in
    let one_more = take_more signatures i signature c.loop-signature-test.true
    ∙ ap (λ s. take i signatures ++ s ∷ []) (sym c.signature-item.is) in
    subst (λ ss. AreHinted ids ss c.extend_from_slice.new.self.items) (sym one_more)
    (subst (AreHinted ids (take i signatures ++ signature ∷ []))
    (sym c.in_ok-extend_from_slice.ensures.items)
    (hinted_more ids (take i signatures) signature places c.under.result.now
    c.loop-signature.invariant
    (not_empty signature.keyid (rw (c.as_bytes-hint.ensures.value, c.as_str.ensures) at (sym c.is_empty.ensures ∙ c.if-is_empty.false)))
    (λ place under. (c.under.ensures place).1 (rw (c.as_bytes-hint.ensures.value, c.as_str.ensures) under))))

pub returns : goal.returns
returns c =
    let signatures = c.as_slice-signature-items.result.now in
    hinted_possible c.args.envelope.now c.args.self.now.builders.items c.args.self.now.ids
    c.loop-signature.places.items c.requires
    (subst (λ ss. AreHinted c.args.self.now.ids ss c.loop-signature.places.items)
    (take_all c.loop-signature.signature-index signatures c.loop-signature-test.false
    ∙ c.as_slice-signature-items.ensures)
    c.loop-signature.invariant)
