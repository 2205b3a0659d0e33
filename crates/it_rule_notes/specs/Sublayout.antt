-- What a note says about a sublayout (in-toto 1.0 section 5.2, verifying the final product).
use Rattle.std.specs.Prelude.{◌≡◌, ℕ, List, ◌++◌, Contains, codes}
use Rattle.it_docs.specs.declared.layout.Layout.{Layout}
use Rattle.it_docs.specs.declared.step.Step.{Step}
use Rattle.it_chain.specs.Contents.{Contents}
use Rattle.it_chain.specs.CountedBodies.{Setting}
use Rattle.it_rule_notes.specs.CountingFile.{FileCounts, IsLayoutBody}
use Rattle.it_rule_notes.specs.Line.{key_form, told_form}
use Rattle.it_rule_notes.specs.declared.counting_file.CountingFile.{CountingFile}
use Rattle.it_rule_notes.specs.declared.sublayout_note.SublayoutNote.{SublayoutNote}

-- the file holds a layout that counts for the key id of the step
pub record TellsSublayout (setting : Setting) (layout : Layout) (bundle : Contents)
    (note : SublayoutNote) : Type 0 where
  pub step : Step
  pub found : CountingFile
  pub is_step : Contains layout.steps step
  pub step_is : step.name ≡ note.step
  pub file_is : found.name ≡ note.file
  pub counts : FileCounts setting layout bundle step note.id found
  pub is_layout : IsLayoutBody found.payload

-- the line of a note (this project's words)
abbrev pub sublayout_line : SublayoutNote → List ℕ
sublayout_line note =
    key_form note.id note.step
    ++ told_form (codes " the sublayout is in file ") note.file (codes "\n")
