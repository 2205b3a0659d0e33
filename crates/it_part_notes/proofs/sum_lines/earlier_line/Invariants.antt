use Rattle.it_part_notes.proofs.SumLines.{Begins}
use Rattle.it_part_notes.proofs.sum_lines.earlier_line.Given as goal

-- the rest begins with the line that is looked at
abbrev pub invariant-loop-earlier : goal.invariant-loop-earlier
invariant-loop-earlier l = Begins l.fn.bytes l.earlier l.rest
