use Rattle.std.proofs.Common.{◌≡◌, take}
use Rattle.json.specs.Value.{items_view as parts_view, members_view}
use Rattle.serde_json.specs.Data.{no_members}
use Rattle.it_base.specs.JsonView.{items_view, fields_view}
use Rattle.it_base.specs.TreeOf.{fields_of, trees_of}
use Rattle.it_borrowed.specs.Tree.{data_of_items, data_of_members}
use Rattle.it_borrowed.proofs.parameters.+read.Given as goal

abbrev pub invariant-read_items-loop-item : goal.invariant-read_items-loop-item
invariant-read_items-loop-item l =
    items_view l.list.items ≡ trees_of (data_of_items (parts_view (take l.item-index l.item-items)))

abbrev pub invariant-read_members-loop-member : goal.invariant-read_members-loop-member
invariant-read_members-loop-member l =
    fields_view l.by_name.entries
    ≡ fields_of (data_of_members (members_view (take l.member-index l.member-items)) no_members)
