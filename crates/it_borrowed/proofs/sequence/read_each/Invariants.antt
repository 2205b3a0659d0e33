use Rattle.std.proofs.Common.{take}
use Rattle.json.specs.Value.{items_view}
use Rattle.it_base.specs.Sequence.{AreEach}
use Rattle.it_borrowed.specs.Tree.{data_of_items}
use Rattle.it_borrowed.proofs.sequence.read_each.Given as goal

abbrev pub invariant-loop-item : goal.invariant-loop-item
invariant-loop-item g l =
    AreEach g.T.FromBorrowed.is_of (data_of_items (items_view (take l.item-index l.items.items)))
    l.values.items
