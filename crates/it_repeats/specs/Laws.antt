-- A document and the tree of its text.
use Rattle.std.specs.Prelude.{◌≡◌, ℕ, List, Some}
use Rattle.json.specs.Json.{Json}
use Rattle.serde_json.specs.Data.{Data}
use Rattle.serde_json.specs.Read.{of_json}
use Rattle.it_base.specs.Document.{IsDocument}
use Rattle.it_repeats.specs.Tree.{IsTree}

-- bytes that are a document are a tree, from which the document is made: of the members of one name
-- it has the last
abbrev pub EachDocumentHasATree : Type 0
EachDocumentHasATree =
    (bytes : List ℕ) (d : Data) → IsDocument bytes d
    → (tree : Json) × IsTree bytes tree × (of_json tree ≡ Some d)
