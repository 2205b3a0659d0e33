use Rattle.std.proofs.Common.{All}
use Rattle.it_step_notes.specs.StepNotes.{Holds}
use Rattle.it_step_notes.proofs.file_notes.push_file_notes.Given as goal

-- each note so far is true
abbrev pub invariant-loop-file : goal.invariant-loop-file
invariant-loop-file g l = All (Holds (g.C.Checks.panel l.checks)
    l.at.layout.now l.at.bundle.now l.at.step.now) l.notes.items
