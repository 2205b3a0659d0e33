use Rattle.std.proofs.Common.{◌≡◌, take}
use Rattle.std.specs.List.{AllByRecursion}
use Rattle.it_chain.proofs.agreement.check_others.Given as goal

-- the others so far are the same as the first
abbrev pub invariant-loop-other : goal.invariant-loop-other
invariant-loop-other l = AllByRecursion (λ r. r.recorded ≡ l.first.recorded)
    (take l.other-index l.others)
