use Rattle.std.proofs.Common.{take}
use Rattle.serde_json.specs.View.{items_view}
use Rattle.it_base.specs.Sequence.{AreEach}
use Rattle.it_base.proofs.list.read_numbered.Given as goal

abbrev pub invariant-loop-place : goal.invariant-loop-place
invariant-loop-place g l = AreEach g.T.FromDocument.is_of (items_view (take l.place l.items.items))
    l.values.items
