use Rattle.std.proofs.Common.{◌≡◌, ◌∙◌, ◌&&◌, Bool, [], false, sym}
use Rattle.it_dsse.specs.Check.{Check}
use Rattle.it_dsse.specs.Signed.{is_admitted}
use Rattle.it_dsse.specs.declared.envelope.Signature.{Signature}
use Rattle.it_dsse.proofs.Trying.{tried_more, tried_last, tried_all, any_passed}
use Rattle.it_public_keys.specs.inside.Questions.{check_of}
use Rattle.it_public_keys.proofs.memory.Memory.any_answered.Goals as goal

pub returns-then-valid-clause-counted : goal.returns-then-valid-clause-counted
returns-then-valid-clause-counted c =
    let check : Check = check_of c.args.question.now in
    let valid : Signature → Bool = λ s. check.is_valid 0 [] s.sig in
    tried_last (is_admitted c.args.id.now) valid
    c.args.signatures.now c.loop-signature.signature-index c.signature-item.result
    c.loop-signature.meter c.vouches.new.meter c.args.meter.now _ c.loop-signature-test.true
    c.signature-item.is (sym c.if-valid.true ∙ c.in_ok-valid.ensures.answer)
    c.in_ok-valid.ensures.counted
    c.loop-signature.invariant.counted

pub loop-signature-preserved : goal.loop-signature-preserved
loop-signature-preserved c =
    let check : Check = check_of c.args.question.now in
    let valid : Signature → Bool = λ s. check.is_valid 0 [] s.sig in
    let item = c.signature-item.result in
    let refused : false ≡ (is_admitted c.args.id.now item && valid item) =
    sym c.if-valid.false ∙ c.in_ok-valid.ensures.answer in
    record {
      found = any_passed (λ s. is_admitted c.args.id.now s && valid s)
          c.args.signatures.now c.loop-signature.signature-index item _
          c.loop-signature-test.true c.signature-item.is refused c.loop-signature.invariant.found;
      counted = tried_more (is_admitted c.args.id.now) valid
          c.args.signatures.now c.loop-signature.signature-index item
          c.loop-signature.meter c.vouches.new.meter c.args.meter.now _
          c.loop-signature-test.true c.signature-item.is refused c.in_ok-valid.ensures.counted
          c.loop-signature.invariant.counted;
    }

pub returns-clause-counted : goal.returns-clause-counted
returns-clause-counted c =
    let check : Check = check_of c.args.question.now in
    tried_all (is_admitted c.args.id.now)
    (λ s. check.is_valid 0 [] s.sig)
    c.args.signatures.now c.loop-signature.signature-index c.loop-signature.meter c.args.meter.now _
    c.loop-signature-test.false c.loop-signature.invariant.counted
