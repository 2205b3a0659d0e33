use Rattle.std.proofs.Common.{◌≡◌, ◌++◌, drop}
use Rattle.it_repeats.specs.Again.{again_in}
use Rattle.it_repeats.proofs.SeenNames.{names}
use Rattle.it_repeats.proofs.again.few_come_again.Given as goal

-- it is told of the members before this one
abbrev pub invariant-loop-number : goal.invariant-loop-number
invariant-loop-number l =
    l.again.items ++ again_in (names (drop l.number l.members)) ≡ again_in (names l.members)
