-- Where two values of a parameter differ, and what is said of the values there (SLSA Provenance v1,
-- `externalParameters`; words of this project).
use Rattle.std.specs.Prelude.{◌≡◌, List, [], ◌∷◌, ℕ, Option, Some, None, IsTrue, option_map}
use Rattle.it_base.specs.Equal.{equal}
use Rattle.it_base.specs.Json.{Json, null, flag, whole, text, items, members, other}
use Rattle.it_base.specs.TreeOf.{field_at}
use Rattle.it_prov_notes.specs.declared.note.Difference.{Difference}
use Rattle.it_prov_notes.specs.declared.note.ValueNote.{ValueNote}
use Rattle.it_prov_notes.specs.declared.note.ValueNote.TheVariants as said

-- the member of this name, of a value that is an object
abbrev pub member_of : List ℕ → Option Json → Option Json
member_of name (Some (members ms)) = field_at name ms
member_of name value = None

-- the value to which the names of members lead down, the outermost name first
abbrev pub value_at : List (List ℕ) → Option Json → Option Json
value_at [] value = value
value_at (name ∷ names) value = value_at names (member_of name value)

-- the two values are equal, or neither is there
abbrev pub AreSame : Option Json → Option Json → Type 0
AreSame (Some given) (Some wanted) = IsTrue (equal given wanted)
AreSame None None = Unit {0}
AreSame given wanted = ⊥

-- what is said of a value: of a list, of an object and of a number that is not whole only the kind
abbrev pub value_note : Json → ValueNote
value_note null = said.Null
value_note (flag b) = said.Flag b
value_note (whole n) = said.Whole n
value_note (text s) = said.Text s
value_note (items ds) = said.List
value_note (members ms) = said.Object
value_note other = said.Number

-- at a place inside, two values are not the same, and this is said of what is there
pub record DifferAt (given wanted : Json) (difference : Difference) : Type 0 where
  pub found_is :
      difference.found ≡ option_map value_note (value_at difference.place (Some given))
  pub wanted_is :
      difference.wanted ≡ option_map value_note (value_at difference.place (Some wanted))
  pub differ : ¬ AreSame (value_at difference.place (Some given))
      (value_at difference.place (Some wanted))
