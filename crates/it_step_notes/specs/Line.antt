-- The lines of notes for people (this project's choice).
use Rattle.std.specs.Prelude.{ℕ, List, [], ◌++◌, codes}
use Rattle.std.specs.List.{flat_map}
use Rattle.it_report.specs.Name.{cut_form}
use Rattle.it_step_notes.specs.declared.note.Finding.{Finding}
use Rattle.it_step_notes.specs.declared.note.Finding.TheVariants.{NoEnvelope, PayloadType}
use Rattle.it_step_notes.specs.declared.note.Finding.TheVariants.{NoSignature, Unsigned, Counts}
use Rattle.it_step_notes.specs.declared.note.Finding.TheVariants.{NeitherLinkNorLayout, OtherName}
use Rattle.it_step_notes.specs.declared.note.StepNote.{StepNote}
use Rattle.it_step_notes.specs.declared.note.StepNote.TheVariants.{File as of_file, NoFile}
use Rattle.it_step_notes.specs.declared.note.StepNote.TheVariants.{NoKeyObject, NearlyClaims}

-- a name after a prefix
abbrev pub behind : List ℕ → List ℕ → List ℕ
behind prefix name = prefix ++ cut_form name

-- what is said of a file with this finding
abbrev pub phrase_of : Finding → List ℕ
phrase_of NoEnvelope = codes ": no DSSE envelope"
phrase_of (PayloadType other) = codes ": of another payload type,"
phrase_of (NoSignature others) = codes ": signed by no key of the step"
phrase_of Unsigned = codes ": signed by no key of the step, and not tried with others"
phrase_of NeitherLinkNorLayout = codes ": neither a link nor a layout"
phrase_of (OtherName name) = codes ": a link of another name,"
phrase_of (Counts ids) = codes ": counts for"

-- the names that follow
abbrev pub details_of : Finding → List ℕ
details_of NoEnvelope = []
details_of (PayloadType other) = behind (codes " ") other
details_of (NoSignature others) = flat_map (behind (codes ", but by ")) others
details_of Unsigned = []
details_of NeitherLinkNorLayout = []
details_of (OtherName name) = behind (codes " ") name
details_of (Counts ids) = flat_map (behind (codes " ")) ids

abbrev pub finding_form : List ℕ → Finding → List ℕ
finding_form name finding = cut_form name ++ phrase_of finding ++ details_of finding

abbrev pub note_form : StepNote → List ℕ
note_form (of_file name finding) = finding_form name finding
note_form (NoKeyObject id) = cut_form id ++ codes ": the layout has no key of this id"
note_form (NoFile id name) =
    cut_form name ++ codes ": no such file, for the key id" ++ behind (codes " ") id
note_form (NearlyClaims name) = cut_form name ++ codes ": nearly named as a file for the step"

-- the line of a note
abbrev pub note_line : StepNote → List ℕ
note_line note = note_form note ++ codes "\n"
