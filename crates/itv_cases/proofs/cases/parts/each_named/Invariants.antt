use Rattle.std.proofs.Common.{take}
use Rattle.serde_json.specs.View.{items_view}
use Rattle.it_base.specs.Sequence.{AreEach}
use Rattle.itv_cases.specs.Part.{IsNamed}
use Rattle.itv_cases.proofs.cases.parts.each_named.Given as goal

abbrev pub invariant-loop-item : goal.invariant-loop-item
invariant-loop-item l = AreEach IsNamed (items_view (take l.item-index l.items.items)) l.named.items
