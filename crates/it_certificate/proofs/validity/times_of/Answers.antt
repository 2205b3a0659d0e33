use Rattle.std.proofs.Common.{arith}
use Rattle.it_certificate.proofs.Times.{no_first, no_last, both_times}
use Rattle.it_certificate.proofs.validity.times_of.Goals as goal

pub returns-in_err-first : goal.returns-in_err-first
returns-in_err-first c = rw c.from_residual.ensures
    (λ v is. no_first c.args.elements.now _ (omega arith) c.in_err-first.ensures v is)

pub returns-in_err-last : goal.returns-in_err-last
returns-in_err-last c = rw c.from_residual-in_err-last.ensures
    (λ v is. no_last c.args.elements.now _ (omega arith) c.in_err-last.ensures v is)

pub returns : goal.returns
returns c =
    both_times c.args.elements.now _ _ (record { first = c.in_ok-first.first; last = c.in_ok-last.last }) (omega arith)
    c.in_ok-first.ensures c.in_ok-last.ensures
