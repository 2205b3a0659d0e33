use Rattle.std.proofs.Common.{◌≡◌, codes, arith}
use Rattle.it_borrowed.specs.Tree.{as_data}
use Rattle.it_base.proofs.Unique.{part_same}
use Rattle.it_log_entry.specs.Number.{IsNumber}
use Rattle.it_log_entry.proofs.Same.{number_same}
use Rattle.it_log_entry.proofs.entry.time_of.Goals as goal

pub returns-then-get-eq0 : goal.returns-then-get-eq0
returns-then-get-eq0 c = λ time is.
    let same : time ≡ c.in-Some.time = part_same IsNumber number_same (codes "integratedTime")
    (as_data c.args.value.now) time c.in-Some.time is.0 (rw c.in-Some.is at c.in_ok-time.ensures) in
    let some = is.1 in
    omega arith
