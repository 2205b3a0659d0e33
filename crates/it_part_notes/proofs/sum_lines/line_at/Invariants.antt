use Rattle.std.proofs.Common.{◌+◌, ◌≤◌, length}
use Rattle.it_part_notes.proofs.SumLines.{Begins}
use Rattle.it_part_notes.proofs.sum_lines.line_at.Given as goal

-- the rest begins with the next line
abbrev pub invariant-loop-rest : goal.invariant-loop-rest
invariant-loop-rest l = record {
  so_far : Begins l.fn.bytes l.next l.rest;
  in_range : l.next + length l.rest ≤ length l.fn.bytes + 1;
}

abbrev pub decreases-loop-rest : goal.decreases-loop-rest
decreases-loop-rest l = length l.rest
