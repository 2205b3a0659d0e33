-- What comes of the lines of a table (words of this project).
use Rattle.std.specs.Prelude.{◌≡◌, ◌↔◌, ℕ, List, Bool, true, false, Option, None, String, IsTrue}
use Rattle.std.specs.declared.alloc.Global.{Global}
use Rattle.serde_json.specs.Data.{Data}
use Rattle.it_base.specs.Document.{IsDocument}
use Rattle.it_tables.specs.declared.outcome.Outcome.{Outcome}
use Rattle.it_tables.specs.declared.outcome.Outcome.TheVariants.{Agrees, Differs}

-- what is given is what is wanted
abbrev pub agrees : Outcome → Bool
agrees Agrees = true
agrees (Differs line) = false

-- the line is a document, and agrees exactly where that has no difference
pub record IsOutcomeOf (IsDifference : Data → Option (String Global) → Type 0) (line : List ℕ)
    (outcome : Outcome) : Type 0 where
  pub document : Data
  pub is_document : IsDocument line document
  pub difference : Option (String Global)
  pub is_difference : IsDifference document difference
  pub agrees_where : IsTrue (agrees outcome) ↔ (difference ≡ None)
