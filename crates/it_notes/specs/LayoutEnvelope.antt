-- The line of a note on what was given as the envelope of the layout (words of this project).
use Rattle.std.specs.Prelude.{ℕ, List, ◌++◌, codes}
use Rattle.it_report.specs.Name.{cut_form}
use Rattle.it_part_notes.specs.PartLines.{part_line}
use Rattle.it_notes.specs.declared.layout_envelope.EnvelopeNote.{EnvelopeNote}
use Rattle.it_notes.specs.declared.layout_envelope.EnvelopeNote.TheVariants.{NoEnvelope, OtherType}

-- which type is expected in place of one that is found
unfoldable pub expected_form : List ℕ
expected_form = codes " where application/vnd.in-toto+json is expected\n"

abbrev pub type_line : List ℕ → List ℕ
type_line found = codes "layout: its payload type is " ++ cut_form found ++ expected_form

abbrev pub envelope_line : EnvelopeNote → List ℕ
envelope_line (NoEnvelope note) = codes "layout: " ++ part_line note
envelope_line (OtherType found) = type_line found
