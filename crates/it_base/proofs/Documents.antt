-- What the bytes are, once their document is known.
use Rattle.std.proofs.Common.{◌≡◌, ℕ, List, Option, Some, None, sym, ◌∙◌, subst}
use Rattle.std.proofs.lemmas.Option.{same_Some}
use Rattle.serde_json.specs.Data.{Data}
use Rattle.it_base.specs.Document.{IsDocument, OfDocument}
use Rattle.it_base.specs.Finds.{Finds}

-- bytes are one document
pub same_document : (bytes : List ℕ) (d e : Data) → IsDocument bytes d → IsDocument bytes e → d ≡ e
same_document bytes d e first second = same_Some d e (sym first.reads ∙ second.reads)

-- what is found in the document is found in the bytes
pub found_of_document : {X : Type 0} (P : Data → X → Type 0) (bytes : List ℕ) (d : Data)
    (found : Option X)
    → IsDocument bytes d → Finds (P d) found → Finds (OfDocument P bytes) found
found_of_document P bytes d None is h =
    λ x other. h x (subst (λ e. P e x) (same_document bytes other.0 d other.1 is) other.2)
found_of_document P bytes d (Some x) is h = (d, is, h)
