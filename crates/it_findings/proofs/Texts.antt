-- What is found in the document of a text is found in each document that the text is.
use Rattle.std.proofs.Common.{ℕ, List, subst}
use Rattle.serde_json.specs.Data.{Data}
use Rattle.it_base.specs.Document.{IsDocument}
use Rattle.it_base.proofs.Documents.{same_document}

pub in_each_document : {X : Type 0} (P : Data → List X → Type 0) (bytes : List ℕ) (d : Data)
    (found : List X)
    → IsDocument bytes d → P d found → (e : Data) → IsDocument bytes e → P e found
in_each_document P bytes d found read holds e is =
    subst (λ x. P x found) (same_document bytes d e read is) holds
