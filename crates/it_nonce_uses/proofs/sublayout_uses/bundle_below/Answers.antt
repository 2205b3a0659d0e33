use Rattle.std.proofs.Common.{◌≡◌, ◌∙◌, ◌+◌, ◌++◌, ◌∷◌, [], sym, ap, take}
use Rattle.std.proofs.lemmas.List.{take_more}
use Rattle.it_chain.specs.Sublayouts.{folder_name, folder_of}
use Rattle.it_sublayouts.specs.Counted.{Place}
use Rattle.it_sublayouts.proofs.Descending.{folder_found}
use Rattle.it_nonce_uses.specs.LayoutUses.{folder_below}
use Rattle.it_nonce_uses.proofs.Listed.{one_further}
use Rattle.it_nonce_uses.proofs.sublayout_uses.bundle_below.Goals as goal

pub loop-step-preserved : goal.loop-step-preserved
loop-step-preserved c =
    let at = c.args.at.now in
    let i = c.loop-step.step-index in
    let place : Place = c.loop-step-item.result in
    let named : c.as_str-in-loop-step-2.result.now ≡ folder_name place.0 place.1 =
    c.as_str-in-loop-step-2.ensures.value ∙ c.in_ok-name.ensures
    ∙ ap (λ step. folder_name step c.as_str-in-loop-step.result.now) c.as_str.ensures
    ∙ ap (folder_name place.0) c.as_str-in-loop-step.ensures in
    let folder : c.unwrap_or-bundle.result.now
    ≡ folder_of place.0 place.1 c.loop-step.bundle.now = ap (λ r. r.now) c.unwrap_or-bundle.ensures
    ∙ folder_found place.0 place.1 c.loop-step.bundle.now c.as_str-in-loop-step-2.result.now
    c.dir.result _ named c.dir.ensures c.requires in
    let further : take (i + 1) at ≡ take i at ++ place ∷ [] =
    take_more at i place c.loop-step-test.true
    ∙ ap (λ next. take i at ++ next ∷ []) (sym c.loop-step-item.is) in
    folder ∙ ap (folder_of place.0 place.1) c.loop-step.invariant
    ∙ sym (one_further (take i at) place c.args.links.now)
    ∙ ap (λ places. folder_below places c.args.links.now) (sym further)
