-- The lines of the notes on a verdict.
use Rattle.it_dsse.specs.Panel.{Panel}
use Rattle.it_report.specs.declared.verdict.Verdict.{Verdict}
use Rattle.it_verify.specs.declared.inputs.Inputs.{Inputs}
use Rattle.it_notes.specs.NoteLines.{note_lines}
use Rattle.it_notes.specs.Notes.{AreTrue}
use Rattle.it_notes.specs.ShownLines.{Hold}
use Rattle.it_notes.specs.declared.lines.Lines.{Lines}
use Rattle.it_notes.specs.declared.notes.Notes.{Notes}

-- these are the lines of notes that are true of the verdict on the inputs
pub record AreNoteLines (panel : Panel) (inputs : Inputs) (verdict : Verdict) (lines : Lines)
    : Type 0 where
  pub notes : Notes
  pub are_true : AreTrue panel inputs verdict notes
  pub hold : Hold lines (note_lines notes)
