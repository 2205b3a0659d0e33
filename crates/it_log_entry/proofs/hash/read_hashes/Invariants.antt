use Rattle.std.proofs.Common.{take}
use Rattle.json.specs.Value.{items_view}
use Rattle.it_base.specs.Sequence.{AreEach}
use Rattle.it_borrowed.specs.Tree.{data_of_items}
use Rattle.it_log_entry.specs.InclusionProof.{IsHash}
use Rattle.it_log_entry.proofs.hash.read_hashes.Given as goal

abbrev pub invariant-loop-item : goal.invariant-loop-item
invariant-loop-item l =
    AreEach IsHash (data_of_items (items_view (take l.item-index l.items.items))) l.hashes.items
