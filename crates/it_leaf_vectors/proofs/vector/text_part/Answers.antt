use Rattle.std.proofs.lemmas.Result.{IfOk-weaker}
use Rattle.serde_json.specs.View.{view}
use Rattle.it_base.specs.Document.{OfDocument}
use Rattle.it_base.specs.Finds.{Finds}
use Rattle.it_leaf_vectors.specs.Vector.{IsTextPart}
use Rattle.it_leaf_vectors.proofs.Texts.{found_in_text}
use Rattle.it_leaf_vectors.proofs.vector.text_part.Goals as goal

pub returns-in_default : goal.returns-in_default
returns-in_default g c = λ x of. (rw c.in_default.is at c.in_ok-text.ensures) of.0 of.1

pub returns : goal.returns
returns g c =
    let P = g.T.FromBorrowed.is_of in
    let d = view c.args.document.now in
    IfOk-weaker c.from_bytes.result (Finds (OfDocument P c.in-Some.text))
    (Finds (IsTextPart P c.args.name.now d))
    (λ found of. found_in_text P c.args.name.now d c.in-Some.text (rw c.in-Some.is at c.in_ok-text.ensures) found of)
    (rw (c.as_bytes.ensures.value, c.as_str.ensures) at c.from_bytes.ensures)
