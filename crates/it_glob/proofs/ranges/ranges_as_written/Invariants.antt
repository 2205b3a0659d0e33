use Rattle.std.proofs.Common.{◌≡◌, ◌++◌, length}
use Rattle.it_glob.specs.inside.Ranges.{written_ranges}
use Rattle.it_glob.proofs.ranges.ranges_as_written.Given as goal

abbrev pub invariant-loop-first : goal.invariant-loop-first
invariant-loop-first l = l.ranges.items ++ written_ranges l.rest ≡ written_ranges l.body

abbrev pub decreases-loop-first : goal.decreases-loop-first
decreases-loop-first l = length l.rest
