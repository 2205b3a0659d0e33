use Rattle.std.proofs.Common.{◌≡◌, ◌∙◌, true}
use Rattle.it_step_notes.specs.Signing.{IsSignedUnder}
use Rattle.it_step_notes.proofs.Those.{one_kept, one_passed}
use Rattle.it_step_notes.proofs.signing_ids.signing_ids.Goals as goal
use Rattle.it_step_notes.proofs.signing_ids.signing_ids.Goals.{
  then-signed+in_ok-copy+in_ok-push,
  else-signed,
}

pub loop-id-preserved : goal.loop-id-preserved
loop-id-preserved g c =
    let panel = g.C.Checks.panel c.args.checks.now in
    let P = IsSignedUnder panel c.args.at.now.layout.now c.args.envelope.now in
    let ids = c.as_slice-id-items.result.now in
    elim c.if-signed.branch [
      | then-signed+in_ok-copy+in_ok-push w ↦
          let signs : P c.id-item.result = rw c.as_str.ensures at
          (c.in_ok-signed.ensures.0 w.if-signed.true) in
          let same : w.in_ok-copy.field-0 ≡ c.id-item.result =
          w.in_ok-copy.ensures ∙ w.as_str-then-signed.ensures in
          rw (w.ids-is, w.in_ok-push.ensures.items, same)
          (one_kept P ids c.loop-id.id-index c.id-item.result c.loop-id.ids.items
          c.loop-id-test.true c.id-item.is c.loop-id.invariant signs)
      | else-signed w ↦
          let refuses : ¬ P c.id-item.result =
          λ h. (let is = c.in_ok-signed.ensures.1
          (rw c.as_str.ensures h) in cc (is, w.if-signed.false)) in
          rw w.ids-is
          (one_passed P ids c.loop-id.id-index c.id-item.result _ c.loop-id-test.true
          c.id-item.is c.loop-id.invariant refuses)
    ]
