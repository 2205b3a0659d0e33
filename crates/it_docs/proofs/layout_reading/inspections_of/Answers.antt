use Rattle.std.proofs.Common.{codes, inl, inr, refl}
use Rattle.it_borrowed.specs.Tree.{as_data}
use Rattle.it_docs.specs.Step.{IsInspection}
use Rattle.it_base.proofs.Lists.{item_fault}
use Rattle.it_docs.proofs.layout_reading.inspections_of.Goals as goal

pub returns-in-Err-NoList : goal.returns-in-Err-NoList
returns-in-Err-NoList c =
    inl (refl, rw c.in-Err-NoList.field-0-is at c.in-Err-NoList.ensures)

pub returns-in-Err-NoItem : goal.returns-in-Err-NoItem
returns-in-Err-NoItem c =
    let bad = rw c.in-Err-NoItem.field-0-is at c.in-Err-NoItem.ensures in
    let n = c.in-Err-NoItem.n in
    inr (n, refl, item_fault IsInspection (codes "inspect") (as_data c.args.document.now) n bad)
