-- The tree that bytes are the text of (JSON as serde_json reads it, before it keeps the last member
-- of each name).
use Rattle.std.specs.Prelude.{ℕ, List, IsUtf8}
use Rattle.json.specs.Json.{Json}
use Rattle.it_borrowed.specs.Json.{IsJson}

-- the bytes are the text of this tree
pub record IsTree (bytes : List ℕ) (tree : Json) : Type 0 where
  pub utf8 : IsUtf8 bytes
  pub is : IsJson bytes tree
