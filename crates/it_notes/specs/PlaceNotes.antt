-- What is said of where a sublayout is (words of this project).
use Rattle.std.specs.Prelude.{◌≡◌, List, [], ◌∷◌, ◌++◌, IfSome}
use Rattle.it_dsse.specs.Panel.{Panel}
use Rattle.it_rule_notes.specs.CountingFile.{setting_of}
use Rattle.it_rule_notes.specs.Sublayout.{TellsSublayout}
use Rattle.it_rule_notes.specs.declared.sublayout_note.SublayoutNote.{SublayoutNote}
use Rattle.it_step_notes.specs.Folder.{LacksFolder}
use Rattle.it_verify.specs.declared.inputs.Inputs.{Inputs}
use Rattle.it_notes.specs.Level.{IsLevel, Place}
use Rattle.it_notes.specs.declared.fault_level.FaultLevel.{FaultLevel}
use Rattle.it_notes.specs.declared.place_notes.PlaceNotes.{PlaceNotes}

-- a file holds the sublayout that was signed at a place of a layout
pub record TellsFile (panel : Panel) (level : FaultLevel) (place : Place) (note : SublayoutNote)
    : Type 0 where
  pub step_is : note.step ≡ place.0
  pub id_is : note.id ≡ place.1
  pub is_true : TellsSublayout (setting_of panel level.moment) level.signed.layout level.links.now
      note

-- which file holds the sublayout that was signed at the last of the places, and that its folder is
-- missing
pub record TellsPlace (panel : Panel) (inputs : Inputs) (at : List Place) (notes : PlaceNotes)
    : Type 0 where
  pub before : List Place
  pub last : Place
  pub level : FaultLevel
  pub at_is : at ≡ before ++ last ∷ []
  pub is_level : IsLevel panel inputs before level
  pub file : IfSome notes.file (TellsFile panel level last)
  pub folder : IfSome notes.folder (LacksFolder level.links.now last.0 last.1)
