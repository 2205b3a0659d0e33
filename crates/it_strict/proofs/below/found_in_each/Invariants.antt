use Rattle.std.proofs.Common.{◌≡◌, ◌++◌}
use Rattle.std.specs.List.{AllZip}
use Rattle.std.specs.Vec.Iter.{into_iter_items}
use Rattle.it_strict.specs.Below.{IsFoundBelow}
use Rattle.it_strict.proofs.below.found_in_each.Given as goal

-- what is found in the sublayouts so far
abbrev pub invariant-loop-sublayout : goal.invariant-loop-sublayout
invariant-loop-sublayout l = record {
  given : l.yielded ++ into_iter_items l.sublayout-iterator ≡ l.fn.sublayouts.items;
  found : AllZip IsFoundBelow l.yielded l.found.items;
}
