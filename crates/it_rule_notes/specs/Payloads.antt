-- What a note says about two bodies that count for one key id (in-toto 1.0 section 5.2; that no two
-- may differ is this profile's choice).
use Rattle.std.specs.Prelude.{◌≡◌, ◌≢◌, ℕ, List, [], ◌++◌, Contains, codes}
use Rattle.it_docs.specs.declared.layout.Layout.{Layout}
use Rattle.it_docs.specs.declared.step.Step.{Step}
use Rattle.it_chain.specs.Contents.{Contents}
use Rattle.it_chain.specs.CountedBodies.{Setting}
use Rattle.it_rule_notes.specs.CountingFile.{FileCounts}
use Rattle.it_rule_notes.specs.Line.{key_form, told_form}
use Rattle.it_rule_notes.specs.declared.counting_file.CountingFile.{CountingFile}
use Rattle.it_rule_notes.specs.declared.payloads_note.PayloadsNote.{PayloadsNote}

-- both files hold bodies that count for the key id of the step, and the bodies differ
pub record TellsPayloads (setting : Setting) (layout : Layout) (bundle : Contents)
    (note : PayloadsNote) : Type 0 where
  pub step : Step
  pub first : CountingFile
  pub second : CountingFile
  pub is_step : Contains layout.steps step
  pub step_is : step.name ≡ note.step
  pub first_is : first.name ≡ note.first
  pub second_is : second.name ≡ note.second
  pub first_counts : FileCounts setting layout bundle step note.id first
  pub second_counts : FileCounts setting layout bundle step note.id second
  pub differ : first.payload ≢ second.payload

-- how two files are named (this project's words)
unfoldable pub files_form : List ℕ → List ℕ → List ℕ
files_form first second =
    told_form (codes " the files ") first []
    ++ told_form (codes " and ") second (codes " count and differ\n")

-- the line of a note (this project's words)
abbrev pub payloads_line : PayloadsNote → List ℕ
payloads_line note = key_form note.id note.step ++ files_form note.first note.second
