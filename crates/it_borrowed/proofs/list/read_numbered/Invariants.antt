use Rattle.std.proofs.Common.{take}
use Rattle.json.specs.Value.{items_view}
use Rattle.it_base.specs.Sequence.{AreEach}
use Rattle.it_borrowed.specs.Tree.{data_of_items}
use Rattle.it_borrowed.proofs.list.read_numbered.Given as goal

abbrev pub invariant-loop-place : goal.invariant-loop-place
invariant-loop-place g l =
    AreEach g.T.FromBorrowed.is_of (data_of_items (items_view (take l.place l.items.items)))
    l.values.items
