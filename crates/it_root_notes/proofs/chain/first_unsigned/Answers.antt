use Rattle.std.proofs.Common.{◌∙◌, ◌+◌, ◌-◌, arith, map, refl}
use Rattle.it_certificate.specs.Authority.{IsSignedBy}
use Rattle.it_certificate.specs.Certificate.{facts_of}
use Rattle.it_issued.specs.Signature.{Signs}
use Rattle.it_root_notes.proofs.Chains.{in_turn}
use Rattle.it_root_notes.proofs.Standing.{all_meet, all_tell, one_meets, one_misses}
use Rattle.it_root_notes.proofs.chain.first_unsigned.Goals as goal

pub loop-place-init : goal.loop-place-init
loop-place-init c = record {
  tell = all_tell (IsSignedBy Signs) c.args.certificates.now;
  most = refl;
  grows = omega arith;
}

pub returns-then-not-branch-clause-answer : goal.returns-then-not-branch-clause-answer
returns-then-not-branch-clause-answer c =
    let place = c.loop-place.place in
    one_misses (IsSignedBy Signs) (place - 1) place c.args.certificates.now
    c.index-certificates-place.result c.index-certificates-place-in-loop-place.result (omega arith)
    c.loop-place-test.true c.index-certificates-place.is
    c.index-certificates-place-in-loop-place.is c.loop-place.invariant.tell
    (λ by. let yes = c.in_ok-is_signed_by.ensures.answer.1 by in cc)

pub loop-place-preserved : goal.loop-place-preserved
loop-place-preserved c =
    let place = c.loop-place.place in
    let signed = c.in_ok-is_signed_by.ensures in
    record {
      tell = one_meets (IsSignedBy Signs) (place - 1) place c.args.certificates.now
          c.index-certificates-place.result c.index-certificates-place-in-loop-place.result (omega arith)
          c.loop-place-test.true c.index-certificates-place.is
          c.index-certificates-place-in-loop-place.is c.loop-place.invariant.tell (place + 1 - 1) (omega arith)
          (signed.answer.0 c.if-not-branch.false);
      most = signed.most ∙ c.loop-place.invariant.most;
      grows = omega (arith, signed.grows, c.loop-place.invariant.grows);
    }

pub returns-clause-answer : goal.returns-clause-answer
returns-clause-answer c =
    let place = c.loop-place.place in
    let xs = c.args.certificates.now in
    in_turn (map facts_of xs)
    (all_meet (IsSignedBy Signs) (place - 1) xs (omega arith) c.loop-place.invariant.tell)
