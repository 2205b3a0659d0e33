use Rattle.std.proofs.Common.{refl}
use Rattle.it_issued.proofs.Issuing.{AllValid, none_left, valid_over, valid_stops}
use Rattle.it_issued.proofs.issued.are_valid.Goals as goal

pub returns-then-not-is_valid : goal.returns-then-not-is_valid
returns-then-not-is_valid c =
    let xs = c.args.certificates.now in
    valid_stops (AllValid c.args.moment xs) c.args.moment c.loop-certificate.certificate-index xs c.certificate-item.result
    c.loop-certificate-test.true c.certificate-item.is (λ valid. let yes = c.is_valid.ensures.1 valid in cc) c.loop-certificate.invariant

pub loop-certificate-preserved : goal.loop-certificate-preserved
loop-certificate-preserved c =
    let xs = c.args.certificates.now in
    valid_over (AllValid c.args.moment xs) c.args.moment c.loop-certificate.certificate-index xs c.certificate-item.result
    c.loop-certificate-test.true c.certificate-item.is (c.is_valid.ensures.0 c.if-not-is_valid.false) c.loop-certificate.invariant

pub returns : goal.returns
returns c = (
  λ t. c.loop-certificate.invariant.1 (none_left c.args.moment c.loop-certificate.certificate-index c.args.certificates.now c.loop-certificate-test.false),
  λ all. refl,
)
