use Rattle.std.proofs.Common.{◌↔◌, IsTrue, refl}
use Rattle.it_dsse.specs.Signed.{Vouches, message_of}
use Rattle.it_valid_signatures.proofs.FirstSigned.{keep_one, pass_one}
use Rattle.it_valid_signatures.proofs.valid.valid_signatures.Goals as goal
use Rattle.it_valid_signatures.proofs.valid.valid_signatures.Goals.{
  then-vouches+in_ok-push,
  else-vouches,
}

pub loop-signature-preserved : goal.loop-signature-preserved
loop-signature-preserved g c =
    let n = g.C.Checks.number c.args.checks.now c.args.key.now in
    let P = Vouches (g.C.Checks.panel c.args.checks.now) c.args.id.now n
    (message_of c.args.envelope.now) in
    let items = c.as_slice-signature-items.result.now in
    let i = c.loop-signature.signature-index in
    let signature = c.signature-item.result in
    let answer : IsTrue c.in_ok-vouches.vouches ↔ P signature =
    rw (
      c.as_slice-in-loop-signature.ensures.value,
      c.in_ok-message.ensures,
      c.as_str-kind.ensures,
      c.as_slice.ensures,
    ) at c.in_ok-vouches.ensures in
    elim c.if-vouches.branch [
      | then-vouches+in_ok-push w ↦
          rw (w.kept-is, w.in_ok-push.ensures.items)
          (keep_one P items i signature c.loop-signature.kept.items _ c.loop-signature-test.true
          c.signature-item.is refl (answer.0 w.if-vouches.true) c.loop-signature.invariant)
      | else-vouches w ↦
          let refuses : ¬ P signature =
          λ h. (let is = answer.1 h in cc (is, w.if-vouches.false)) in
          rw w.kept-is
          (pass_one P items i signature c.loop-signature.kept.items c.loop-signature-test.true
          c.signature-item.is refuses c.loop-signature.invariant)
    ]
