use Rattle.std.proofs.Common.{◌≡◌, ◌++◌, drop}
use Rattle.it_glob.specs.inside.Ranges.{widened}
use Rattle.it_glob.proofs.ranges.widen.Given as goal

abbrev pub invariant-loop-range : goal.invariant-loop-range
invariant-loop-range l = l.wide.items ++ widened l.reach (drop l.range-index l.ranges)
    ≡ widened 0 l.ranges
