use Rattle.std.proofs.Common.{◌≡◌, ◌≤◌, length, drop, reverse}
use Rattle.it_repeats.specs.Again.{again_in}
use Rattle.it_repeats.proofs.SeenNames.{HasNames, names}
use Rattle.it_repeats.proofs.again.many_come_again.Given as goal

-- the names from `left` on are seen, and of them it is told which come again, the last one first
abbrev pub invariant-loop-left : goal.invariant-loop-left
invariant-loop-left l = record {
  within : l.left ≤ length l.members.items;
  seen : HasNames (names (drop l.left l.members.items)) l.seen;
  told : reverse l.again.items ≡ again_in (names (drop l.left l.members.items));
}

abbrev pub decreases-loop-left : goal.decreases-loop-left
decreases-loop-left l = l.left
