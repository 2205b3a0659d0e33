use Rattle.std.proofs.Common.{map, take}
use Rattle.it_notes.specs.ShownLines.{Adds}
use Rattle.it_notes.proofs.lines.Lines.add_all.Given as goal

-- the lines of the notes so far were added
abbrev pub invariant-loop-note : goal.invariant-loop-note
invariant-loop-note g l =
    Adds (map g.N.Line.line (take l.note-index l.notes)) l.fn.self l.self
