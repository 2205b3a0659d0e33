use Rattle.std.proofs.Common.{take}
use Rattle.json.specs.Value.{items_view}
use Rattle.it_borrowed.specs.Tree.{data_of_items}
use Rattle.it_base.specs.Sequence.{AreEach}
use Rattle.it_docs.specs.Statement.{IsSubject}
use Rattle.it_docs.proofs.statement.read_subjects.Given as goal

abbrev pub invariant-loop-item : goal.invariant-loop-item
invariant-loop-item l =
    AreEach IsSubject (data_of_items (items_view (take l.item-index l.items.items))) l.subjects.items
