use Rattle.std.proofs.Common.{All}
use Rattle.it_dsse.specs.Panel.{Panel}
use Rattle.it_step_notes.specs.StepNotes.{Holds}
use Rattle.it_step_notes.proofs.near_names.push_near_names.Given as goal

-- each note so far is true, where those at the beginning are
abbrev pub invariant-loop-file : goal.invariant-loop-file
invariant-loop-file l = (panel : Panel)
    → All (Holds panel l.at.layout.now l.at.bundle.now l.at.step.now) l.fn.notes.items
    → All (Holds panel l.at.layout.now l.at.bundle.now l.at.step.now) l.notes.items
