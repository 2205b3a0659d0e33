-- The document that the bytes of a text are. Nothing here is trusted.
use Rattle.std.specs.Prelude.{ℕ, List, Option, IfSome}
use Rattle.std.specs.declared.alloc.Global.{Global}
use Rattle.json.specs.Value.{value_view}
use Rattle.json.specs.declared.value.Value.{Value}
use Rattle.it_base.specs.Document.{IsDocument}
use Rattle.it_base.specs.Finds.{FindsAs}
use Rattle.it_borrowed.specs.Json.{IsJson}
use Rattle.it_borrowed.specs.Tree.{as_data}

-- the bytes are this document, if they are one, and it is the tree of their text
pub record IsReadFrom (bytes : List ℕ) (document : Option (Value Global)) : Type 0 where
  pub reads : FindsAs as_data (IsDocument bytes) document
  pub tree : IfSome document (λ v. IsJson bytes (value_view v))
