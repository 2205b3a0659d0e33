-- Each object of a document has a brace of its text.
use Rattle.std.specs.Prelude.{ℕ, ◌≤◌, List}
use Rattle.serde_json.specs.Data.{Data}
use Rattle.it_base.specs.Document.{IsDocument}
use Rattle.it_objects.specs.Objects.{braces, objects}

-- a document has no more objects than its text has opening braces
abbrev pub EachObjectHasABrace : Type 0
EachObjectHasABrace = (bytes : List ℕ) (d : Data) → IsDocument bytes d → objects d ≤ braces bytes
