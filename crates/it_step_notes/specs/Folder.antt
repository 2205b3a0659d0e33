-- What a note says about the folder of a sublayout (in-toto 1.0 section 4.4; the name of the folder
-- is this profile's choice).
use Rattle.std.specs.Prelude.{◌≡◌, ℕ, List, ◌++◌, None, codes}
use Rattle.it_chain.specs.Contents.{Contents, folder_at}
use Rattle.it_chain.specs.Sublayouts.{folder_name}
use Rattle.it_report.specs.Name.{cut_form}
use Rattle.it_step_notes.specs.declared.folder_note.FolderNote.{FolderNote}

-- the bundle has no folder for the sublayout that this key id signed for the step of this name
pub record LacksFolder (bundle : Contents) (step id : List ℕ) (note : FolderNote) : Type 0 where
  pub name_is : note.folder ≡ folder_name step id
  pub none : folder_at note.folder bundle ≡ None

-- the line of a note (this project's words)
abbrev pub folder_line : FolderNote → List ℕ
folder_line note =
    cut_form note.folder ++ codes ": no such folder, in which the sublayout's files would be\n"
