use Rattle.std.proofs.Common.{◌≡◌, ◌∷◌, [], ◌∙◌, ap, refl, append_assoc}
use Rattle.std.specs.Vec.Iter.{into_iter_items}
use denote.Param.Object.{read_made}
use Rattle.it_base.proofs.Elements.{map_more}
use Rattle.it_dsse.specs.Check.{Check}
use Rattle.it_dsse.specs.Ring.{ring_check}
use Rattle.itv_cases.proofs.cases.case.answer_by.OwnLists.{at-1-1, own-1}
use Rattle.itv_cases.proofs.cases.case.answer_by.Goals as goal

pub loop-ring-preserved : goal.loop-ring-preserved
loop-ring-preserved c =
    let at = c.loop-ring in
    let ring = c.in-Some.ring in
    let boxed = c.into_dyn_box in
    let steps : into_iter_items at.ring-iterator ≡ ring ∷ into_iter_items c.next.new.self =
    c.in-Some.ensures.steps.0 in
    let read : (own-1.entry boxed.result.vtable).1.meaning boxed.result.value
    ≡ ring_check c.in_ok-new.field-0.value =
    read_made own-1 (own-1.entry at-1-1) at-1-1 refl Check (λ j y. j.1.meaning y)
    boxed.result.vtable boxed.result.value c.in_ok-new.field-0.value boxed.ensures.1 in
    let means = read ∙ ap ring_check c.in_ok-new.ensures.ok in (
      append_assoc at.yielded (ring ∷ []) _ ∙ rw (← steps) at.invariant.0,
      map_more (λ held. (own-1.entry held.vtable).1.meaning held.value) ring_check at.panel.items
          boxed.result _ at.yielded ring c.in_ok-push.ensures.items at.invariant.1 means,
    )
