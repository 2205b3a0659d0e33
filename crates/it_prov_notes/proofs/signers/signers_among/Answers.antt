use Rattle.std.proofs.Common.{Bor, refl}
use Rattle.it_dsse.proofs.Keeping.{keep_more, pass_more}
use Rattle.it_docs.specs.declared.policy.Builder.{Builder}
use Rattle.it_prov.specs.Meets.{SignedByBuilder}
use Rattle.it_prov_notes.proofs.signers.signers_among.Goals as goal
use Rattle.it_prov_notes.proofs.signers.signers_among.Goals.{then-signed+in_ok-push}
use Rattle.it_prov_notes.proofs.signers.signers_among.Goals.{else-signed}

pub loop-builder-preserved : goal.loop-builder-preserved
loop-builder-preserved g c =
    let panel = g.C.Checks.panel c.args.checks.now in
    let signs = SignedByBuilder panel c.args.envelope.now in
    let itself = λ (builder : Builder). builder in
    elim c.if-signed.branch [
      | then-signed+in_ok-push w ↦
          rw (w.signers-is, w.in_ok-push.ensures.items)
          (keep_more signs itself (λ (b : Bor Builder). b.now) c.args.builders.now
          c.loop-builder.builder-index c.builder-item.result c.loop-builder.signers.items _
          c.loop-builder-test.true c.builder-item.is refl
          (c.in_ok-signed.ensures.answer.0 w.if-signed.true) c.loop-builder.invariant)
      | else-signed w ↦
          let refuses : ¬ signs c.builder-item.result =
          λ h. (let is = c.in_ok-signed.ensures.answer.1 h in
          cc (is, w.if-signed.false)) in
          rw w.signers-is
          (pass_more signs itself c.args.builders.now c.loop-builder.builder-index
          c.builder-item.result _ c.loop-builder-test.true c.builder-item.is refuses
          c.loop-builder.invariant)
    ]
