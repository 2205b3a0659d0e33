-- Texts of a document.
use Rattle.std.specs.Prelude.{◌≡◌, ℕ, List, Some}
use Rattle.serde_json.specs.Data.{Data}
use Rattle.serde_json.specs.Find.{as_str}

-- the part is this text
abbrev pub IsText : Data → List ℕ → Type 0
IsText d text = as_str d ≡ Some text
