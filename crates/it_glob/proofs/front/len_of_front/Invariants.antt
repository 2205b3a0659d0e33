use Rattle.std.proofs.Common.{◌≡◌, ◌+◌, drop, length}
use Rattle.it_glob.specs.Pattern.{front_of}
use Rattle.it_glob.proofs.front.len_of_front.Given as goal

abbrev pub invariant-loop-item : goal.invariant-loop-item
invariant-loop-item l = l.len + length (front_of (drop l.item-index l.items)) ≡ length
    (front_of l.items)
