use Rattle.std.proofs.Common.{List, ℕ, sym, subst}
use Rattle.it_digest.specs.Sums.{IsSum, algorithm_of}
use Rattle.it_digest.proofs.SumsLemmas.{AddsSum-or_nothing}
use Rattle.it_digest.proofs.sums.add_sum.Goals as goal

pub returns-in_ok-before-in-Some : goal.returns-in_ok-before-in-Some
returns-in_ok-before-in-Some c =
    let put = c.in_ok-before-in-Some.ensures in
    let is = subst (λ (path : List ℕ). IsSum (algorithm_of c.args.algorithm) c.args.line.now
    (path, c.in-Some.sum.digests))
    (sym c.in_ok-path-in-Some.ensures.ok) c.in-Some.ensures in
    AddsSum-or_nothing _ _ _ _ _ _ _ _ is put.old put.ok c.is_none.ensures
