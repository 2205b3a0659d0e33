use Rattle.std.proofs.lemmas.Result.{IfOk-weaker}
use Rattle.serde_json.specs.View.{view}
use Rattle.it_base.specs.Document.{OfDocument}
use Rattle.it_base.specs.Finds.{Finds}
use Rattle.it_base.proofs.Documents.{found_of_document}
use Rattle.it_base.proofs.parts.from_bytes.Goals as goal

pub returns : goal.returns
returns g c =
    let P = g.T.FromDocument.is_of in
    let is_document = rw c.in-Some.is at c.in_ok-value.ensures in
    IfOk-weaker c.from_document.result (Finds (P (view c.in-Some.value)))
    (Finds (OfDocument P c.args.bytes.now))
    (λ found h. found_of_document P c.args.bytes.now (view c.in-Some.value) found is_document h)
    c.from_document.ensures
