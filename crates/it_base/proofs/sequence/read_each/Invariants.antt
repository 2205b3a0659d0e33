use Rattle.std.proofs.Common.{take}
use Rattle.serde_json.specs.View.{items_view}
use Rattle.it_base.specs.Sequence.{AreEach}
use Rattle.it_base.proofs.sequence.read_each.Given as goal

abbrev pub invariant-loop-item : goal.invariant-loop-item
invariant-loop-item g l =
    AreEach g.T.FromDocument.is_of (items_view (take l.item-index l.items.items)) l.values.items
