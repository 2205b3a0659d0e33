use Rattle.std.proofs.Common.{◌≡◌, ◌∙◌, string_bytes}
use Rattle.it_dsse.specs.Signed.{IsSigner}
use Rattle.it_dsse.proofs.Keeping.{keep_more, pass_more}
use Rattle.it_dsse.proofs.signers.signed_ids_by.Goals as goal
use Rattle.it_dsse.proofs.signers.signed_ids_by.Goals.{then-signed+in_ok-from_str+in_ok-push}
use Rattle.it_dsse.proofs.signers.signed_ids_by.Goals.{else-signed}

pub loop-id-preserved : goal.loop-id-preserved
loop-id-preserved g c =
    let panel = g.C.Checks.panel c.args.checks.now in
    elim c.if-signed.branch [
      | then-signed+in_ok-from_str+in_ok-push w ↦
          let signs = rw c.as_str-text.ensures.value at
          (c.in_ok-signed.ensures.answer.0 w.if-signed.true) in
          let same : string_bytes w.in_ok-from_str.field-0 ≡ string_bytes c.id-item.result =
          w.in_ok-from_str.ensures.ok ∙ c.as_str-text.ensures.value in
          rw (w.signers-is, w.in_ok-push.ensures.items)
          (keep_more (IsSigner panel c.args.envelope.now c.args.object.now) string_bytes
          string_bytes c.args.ids.now c.loop-id.id-index
          c.id-item.result c.loop-id.signers.items _ c.loop-id-test.true c.id-item.is same signs
          c.loop-id.invariant)
      | else-signed w ↦
          let refuses : ¬ IsSigner panel c.args.envelope.now c.args.object.now
          (string_bytes c.id-item.result) =
          λ h. (let is = c.in_ok-signed.ensures.answer.1
          (rw c.as_str-text.ensures.value h) in cc (is, w.if-signed.false)) in
          rw w.signers-is
          (pass_more (IsSigner panel c.args.envelope.now c.args.object.now) string_bytes
          c.args.ids.now c.loop-id.id-index
          c.id-item.result _ c.loop-id-test.true c.id-item.is refuses c.loop-id.invariant)
    ]
