use Rattle.it_borrowed.specs.Tree.{as_data}
use Rattle.it_docs.proofs.LayoutParts.{bad_of_document}
use Rattle.it_docs.proofs.layout_reading.layout_in.Goals as goal

pub returns-in-Some-clause-bad : goal.returns-in-Some-clause-bad
returns-in-Some-clause-bad c =
    bad_of_document c.args.text.now (as_data c.in-Some.document.now)
    (rw c.in-Some.is at c.document.ensures.document) c.layout_of.result c.layout_of.ensures
