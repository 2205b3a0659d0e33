use Rattle.it_borrowed.specs.Tree.{as_data}
use Rattle.it_docs.proofs.Refusals.{layout_reads}
use Rattle.it_docs.proofs.layout_reading.LayoutFromBorrowed.from_borrowed.Goals as goal

pub returns-in-Err-BadLayout : goal.returns-in-Err-BadLayout
returns-in-Err-BadLayout c = λ layout is.
    let first = rw c.in-Err-BadLayout.field-0-is at c.in-Err-BadLayout.ensures in
    first.fails (layout_reads (as_data c.args.value.now) layout is c.in-Err-BadLayout.field-0-0)
