use Rattle.std.proofs.Common.{take}
use Rattle.std.specs.List.{flat_map}
use Rattle.it_notes.specs.NoteLines.{step_lines}
use Rattle.it_notes.specs.ShownLines.{Adds}
use Rattle.it_notes.proofs.text.add_step.Given as goal

-- the lines of the notes so far were added
abbrev pub invariant-loop-told : goal.invariant-loop-told
invariant-loop-told l =
    Adds (flat_map step_lines (take l.told-index l.notes)) l.fn.lines l.lines
