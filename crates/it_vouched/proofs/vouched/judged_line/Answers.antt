use Rattle.it_vouched.proofs.Judging.{found_with, vouches_for_one}
use Rattle.it_vouched.proofs.Lines.{for_none, no_bundle}
use Rattle.it_vouched.proofs.vouched.judged_line.Goals as goal

pub returns-in_default-clause-vouched : goal.returns-in_default-clause-vouched
returns-in_default-clause-vouched c =
    no_bundle c.args.trust.now c.args.line.now (rw c.in_default.is at c.in_ok-bundle.ensures)

pub returns-in_default-clause-misses : goal.returns-in_default-clause-misses
returns-in_default-clause-misses c bundle is = absurd ((rw c.in_default.is at c.in_ok-bundle.ensures) bundle is)

pub returns-in-For-clause-vouched : goal.returns-in-For-clause-vouched
returns-in-For-clause-vouched c =
    found_with c.args.trust.now c.args.line.now c.in-Some.bundle c.in-For.voucher
    (rw c.in-Some.is at c.in_ok-bundle.ensures) (rw c.in-For.is at c.in_ok-voucher.ensures.answer)
    c.in_ok-vouched_with-in-For.field-0 c.in_ok-vouched_with-in-For.ensures

pub returns-in-For-clause-misses : goal.returns-in-For-clause-misses
returns-in-For-clause-misses c =
    vouches_for_one c.args.trust.now c.args.line.now c.in-Some.bundle c.in-For.voucher.identity
    (rw c.in-Some.is at c.in_ok-bundle.ensures) (rw c.in-For.is at c.in_ok-voucher.ensures.answer).vouches

pub returns-clause-vouched : goal.returns-clause-vouched
returns-clause-vouched c =
    let judged = rw c.in-Misses.is at c.in_ok-voucher.ensures.answer in
    for_none c.args.trust.now c.args.line.now c.in-Some.bundle (rw c.in-Some.is at c.in_ok-bundle.ensures) judged.0

pub returns-clause-misses : goal.returns-clause-misses
returns-clause-misses c =
    let judged = rw c.in-Misses.is at c.in_ok-voucher.ensures.answer in
    record {
      bundle = c.in-Some.bundle;
      bundle_is = rw c.in-Some.is at c.in_ok-bundle.ensures;
      for_nobody = judged.0;
      misses = judged.1;
    }
