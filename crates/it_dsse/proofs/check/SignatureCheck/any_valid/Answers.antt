use Rattle.std.proofs.Common.{◌≡◌, ◌&&◌, Bool, true, false, cond, refl, sym}
use Rattle.it_dsse.specs.Check.{Check}
use Rattle.it_message.specs.Message.{joined}
use Rattle.it_dsse.specs.Meter.{raised}
use Rattle.it_dsse.specs.Signed.{is_admitted}
use Rattle.it_dsse.specs.declared.envelope.Signature.{Signature}
use Rattle.it_dsse.proofs.Trying.{tried_more, tried_last, tried_all, any_passed, raised-zero}
use Rattle.it_dsse.proofs.check.SignatureCheck.any_valid.Goals as goal
use Rattle.it_dsse.proofs.check.SignatureCheck.any_valid.Goals.{
  else-is_admitted-via-then-is_admitted+else-valid,
  else-is_admitted-via-else-is_admitted,
}

pub returns-then-valid-clause-counted : goal.returns-then-valid-clause-counted
returns-then-valid-clause-counted g c =
    let check : Check = g.Self.SignatureCheck.meaning c.args.self.now in
    let valid : Signature → Bool =
    λ s. check.is_valid c.args.key (joined c.args.message.now) s.sig in
    let admitted : true ≡ is_admitted c.args.id.now c.signature-item.result =
    c.if-is_admitted.ensures in
    let good : true ≡ valid c.signature-item.result =
    rw c.as_slice-sig.ensures at c.if-valid.ensures.answer in
    tried_last (is_admitted c.args.id.now) valid
    c.args.signatures.now c.loop-signature.signature-index c.signature-item.result
    c.loop-signature.meter c.valid.new.meter c.args.meter.now _ c.loop-signature-test.true
    c.signature-item.is (rw (← admitted, ← good) refl) (rw (← admitted) c.valid.ensures.counted)
    c.loop-signature.invariant.counted

pub loop-signature-preserved : goal.loop-signature-preserved
loop-signature-preserved g c =
    let check : Check = g.Self.SignatureCheck.meaning c.args.self.now in
    let valid : Signature → Bool =
    λ s. check.is_valid c.args.key (joined c.args.message.now) s.sig in
    let item = c.signature-item.result in
    let refused : false ≡ (is_admitted c.args.id.now item && valid item) =
    elim c.else-is_admitted.branch [
      | else-is_admitted-via-then-is_admitted+else-valid w ↦
          let bad : false ≡ valid item = rw c.as_slice-sig.ensures at w.if-valid.ensures.answer in
          rw (← w.if-is_admitted.ensures, ← bad) refl
      | else-is_admitted-via-else-is_admitted w ↦ rw (← w.if-is_admitted.ensures) refl
    ] in
    let tried : c.else-is_admitted.meter
    ≡ raised c.loop-signature.meter (cond (is_admitted c.args.id.now item) 1 0) =
    elim c.else-is_admitted.branch [
      | else-is_admitted-via-then-is_admitted+else-valid w ↦
          rw (w.meter-is, ← w.if-is_admitted.ensures) w.valid.ensures.counted
      | else-is_admitted-via-else-is_admitted w ↦
          rw (w.meter-is, ← w.if-is_admitted.ensures) (sym (raised-zero c.loop-signature.meter))
    ] in
    record {
      found = any_passed (λ s. is_admitted c.args.id.now s && valid s)
          c.args.signatures.now c.loop-signature.signature-index item _
          c.loop-signature-test.true c.signature-item.is refused c.loop-signature.invariant.found;
      counted = tried_more (is_admitted c.args.id.now) valid
          c.args.signatures.now c.loop-signature.signature-index item
          c.loop-signature.meter c.else-is_admitted.meter c.args.meter.now _
          c.loop-signature-test.true c.signature-item.is refused tried
          c.loop-signature.invariant.counted;
    }

pub returns-clause-counted : goal.returns-clause-counted
returns-clause-counted g c =
    let check : Check = g.Self.SignatureCheck.meaning c.args.self.now in
    tried_all (is_admitted c.args.id.now)
    (λ s. check.is_valid c.args.key (joined c.args.message.now) s.sig)
    c.args.signatures.now c.loop-signature.signature-index c.loop-signature.meter c.args.meter.now _
    c.loop-signature-test.false c.loop-signature.invariant.counted
