-- The text under a name in an object (JSON as serde_json reads it, before it looks at how large the
-- numbers are).
use Rattle.std.specs.Prelude.{◌≡◌, ℕ, List, Some, IsUtf8}
use Rattle.json.specs.Find.{get}
use Rattle.json.specs.Json.{Json, string}
use Rattle.it_borrowed.specs.Json.{IsJson}

-- the bytes are the text of an object whose last member of this name is the text
pub record HasText (bytes name text : List ℕ) : Type 0 where
  pub utf8 : IsUtf8 bytes
  pub tree : Json
  pub is_tree : IsJson bytes tree
  pub has : get name tree ≡ Some (string text)
