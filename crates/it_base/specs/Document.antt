-- JSON documents and their members.
use Rattle.std.specs.Prelude.{◌≡◌, ℕ, List, Option, Some, None, option_and_then, IsUtf8}
use Rattle.serde_json.specs.Data.{Data, null}
use Rattle.serde_json.specs.Read.{read}
use Rattle.serde_json.specs.Find.{get}

-- the bytes are the text of this document (JSON as serde_json reads it; this profile's choice)
pub record IsDocument (bytes : List ℕ) (d : Data) : Type 0 where
  pub utf8 : IsUtf8 bytes
  pub reads : read bytes ≡ Some d

-- a member whose value is null counts as missing (this profile's choice)
abbrev pub present : Data → Option Data
present null = None
present d = Some d

-- the member of this name
abbrev pub member_at : List ℕ → Data → Option Data
member_at name d = option_and_then present (get name d)

-- the bytes are a document for which P holds with x
abbrev pub OfDocument : {X : Type 0} → (Data → X → Type 0) → List ℕ → X → Type 0
OfDocument P bytes x = (d : Data) × IsDocument bytes d × P d x
