use Rattle.std.proofs.Common.{arith}
use Rattle.std.proofs.lemmas.Int.{ints}
use Rattle.it_trust_root.proofs.Times.{is_time, not_without_fraction, not_without_moment}
use Rattle.it_trust_root.proofs.Times.{not_without_zone}
use Rattle.it_trust_root.proofs.time.time_of.Goals as goal

pub returns-in_err-fraction : goal.returns-in_err-fraction
returns-in_err-fraction c = rw c.from_residual-in_err-fraction.ensures
    (λ time. not_without_zone c.args.text.now c.in_ok-to_second.rest.now time
    c.in_ok-to_second.ensures.cases.1 (rw c.in_err-fraction.was at c.before_zone.ensures))

pub returns-in_err-moment : goal.returns-in_err-moment
returns-in_err-moment c = rw c.from_residual-in_err-moment.ensures
    (λ time. not_without_moment c.args.text.now c.in_ok-to_second.to_second.now time
    c.in_ok-to_second.ensures.cases.0 (rw c.in_err-moment.was at c.moment_of.ensures))

pub returns-in_err-nanoseconds : goal.returns-in_err-nanoseconds
returns-in_err-nanoseconds c = rw c.from_residual-in_err-nanoseconds.ensures
    (λ time. not_without_fraction c.args.text.now c.in_ok-to_second.rest.now
    c.in_ok-fraction.fraction.now time c.in_ok-to_second.ensures.cases.1 c.in_ok-fraction.ensures
    (rw c.in_err-nanoseconds.was at c.fraction_of.ensures))

pub returns : goal.returns
returns c =
    let seconds = c.from.ensures in
    let rest = c.from-2.ensures in
    is_time c.args.text.now c.in_ok-to_second.to_second.now c.in_ok-to_second.rest.now
    c.in_ok-fraction.fraction.now c.in_ok-moment.moment _ c.in_ok-nanoseconds.nanoseconds
    c.in_ok-to_second.ensures.cases.0 c.in_ok-to_second.ensures.cases.1 c.in_ok-fraction.ensures
    c.in_ok-moment.ensures c.in_ok-nanoseconds.ensures (omega (arith, ints, seconds, rest))
