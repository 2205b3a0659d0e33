use Rattle.std.proofs.Common.{◌≡◌, ◌++◌}
use Rattle.std.specs.Vec.Iter.{into_iter_items}
use Rattle.it_strict.specs.Counting.{AreCounting}
use Rattle.it_strict.proofs.counting.counting_of.Given as goal

-- the findings so far that count
abbrev pub invariant-loop-finding : goal.invariant-loop-finding
invariant-loop-finding l = record {
  given : l.yielded ++ into_iter_items l.finding-iterator ≡ l.fn.all.items;
  counting : AreCounting l.steps l.yielded l.counting.items;
}
