use Rattle.std.proofs.lemmas.Result.{IfOk-weaker}
use Rattle.it_borrowed.specs.Tree.{as_data}
use Rattle.it_findings.specs.NullKeys.{LayoutNulls, NullsOf}
use Rattle.it_findings.proofs.Texts.{in_each_document}
use Rattle.it_findings.proofs.null_keys.layout_nulls.Goals as goal

pub returns-in-Some : goal.returns-in-Some
returns-in-Some c =
    let bytes = c.args.text.now in
    let read = rw c.in-Some.is at c.document.ensures.document in
    IfOk-weaker c.null_keys.result
    (λ found. LayoutNulls (as_data c.in-Some.document.now) found.items)
    (λ found. NullsOf LayoutNulls bytes found.items)
    (λ found h. in_each_document LayoutNulls bytes (as_data c.in-Some.document.now) found.items read h)
    c.null_keys.ensures
