-- The lines so far were looked at, and each was at least one byte.
use Rattle.std.proofs.Common.{◌+◌, ◌≤◌, length}
use Rattle.it_limits.proofs.LinesWritten.{HasLooked}
use Rattle.it_limits.proofs.lines.lines_within_limit.Given as goal

abbrev pub invariant-loop-rest : goal.invariant-loop-rest
invariant-loop-rest l = record {
  so_far : HasLooked l.fn.provenance l.rest l.lines.items l.left_out.items l.number;
  in_range : l.number + length l.rest ≤ length l.fn.provenance;
}

abbrev pub decreases-loop-rest : goal.decreases-loop-rest
decreases-loop-rest l = length l.rest
