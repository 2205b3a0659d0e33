use Rattle.std.proofs.Common.{◌≡◌, length, true, ap, sym, ◌∙◌, ◌==◌}
use Rattle.it_chain.proofs.ClaimedNames.{claims_for, front_of, no_parts, no_stop, nothing_between}
use Rattle.it_chain.proofs.ClaimedNames.{parts_of}
use Rattle.it_chain.proofs.Walks.{nil_of}
use Rattle.it_chain.proofs.claimed_files.claimed_step.Goals as goal

pub returns-in_err-step : goal.returns-in_err-step
returns-in_err-step c =
    let name = c.args.name.now in
    let front = c.in_ok-front.front in
    rw c.from_residual-in_err-step.ensures
    (no_stop name front.now
    (front_of name c.strip_suffix.result front c.in_ok-front.was c.strip_suffix.ensures.cases)
    (no_parts front.now c.rsplit_once.result c.rsplit_once.ensures.cases c.in_err-step.was))

pub returns-then-is_empty : goal.returns-then-is_empty
returns-then-is_empty c =
    let name = c.args.name.now in
    let front = c.in_ok-front.front in
    let x = c.in_ok-step in
    let parts = parts_of front.now c.rsplit_once.result c.rsplit_once.ensures.cases
    (x.step, x.middle) x.was in
    nothing_between name front.now
    (front_of name c.strip_suffix.result front c.in_ok-front.was c.strip_suffix.ensures.cases)
    x.step.now x.middle.now parts.0 parts.1
    (nil_of x.middle.now (sym c.is_empty.ensures ∙ c.if-is_empty.true))

pub returns-else-is_empty : goal.returns-else-is_empty
returns-else-is_empty c =
    let name = c.args.name.now in
    let front = c.in_ok-front.front in
    let x = c.in_ok-step in
    let parts = parts_of front.now c.rsplit_once.result c.rsplit_once.ensures.cases
    (x.step, x.middle) x.was in
    claims_for name front.now
    (front_of name c.strip_suffix.result front c.in_ok-front.was c.strip_suffix.ensures.cases)
    x.step.now x.middle.now parts.0 parts.1
    (λ none. let empty : c.is_empty.result ≡ true = c.is_empty.ensures
    ∙ ap (λ m. length m == 0) none in cc)
