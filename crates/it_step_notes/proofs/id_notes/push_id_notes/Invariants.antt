use Rattle.std.proofs.Common.{All}
use Rattle.it_dsse.specs.Panel.{Panel}
use Rattle.it_step_notes.specs.StepNotes.{Holds}
use Rattle.it_step_notes.proofs.id_notes.push_id_notes.Given as goal

-- each note so far is true, where those at the beginning are
abbrev pub invariant-loop-id : goal.invariant-loop-id
invariant-loop-id l = (panel : Panel)
    → All (Holds panel l.at.layout.now l.at.bundle.now l.at.step.now) l.fn.notes.items
    → All (Holds panel l.at.layout.now l.at.bundle.now l.at.step.now) l.notes.items
