-- What is found of a document that a text holds.
use Rattle.std.proofs.Common.{ℕ, List, Option, Some, None, subst}
use Rattle.serde_json.specs.Data.{Data}
use Rattle.it_base.specs.Document.{OfDocument}
use Rattle.it_base.specs.Finds.{Finds}
use Rattle.it_base.specs.Parts.{IsPart}
use Rattle.it_base.specs.Text.{IsText}
use Rattle.it_base.proofs.Unique.{part_same, text_same}
use Rattle.it_leaf_vectors.specs.Vector.{IsTextPart}

pub found_in_text : {X : Type 0} (P : Data → X → Type 0) (name : List ℕ) (d : Data) (text : List ℕ) → IsPart IsText name d text
    → (found : Option X) → Finds (OfDocument P text) found → Finds (IsTextPart P name d) found
found_in_text P name d text is None none =
    λ x of. none x (subst (λ t. OfDocument P t x) (part_same IsText text_same name d of.0 text of.1 is) of.2)
found_in_text P name d text is (Some x) of = (text, is, of)
