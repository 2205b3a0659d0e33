use Rattle.std.proofs.Common.{◌≡◌, ◌≤◌, List, ◌++◌, take}
use Rattle.serde_json.specs.Data.{items_depth, members_depth}
use Rattle.serde_json.specs.View.{items_view, members_view}
use Rattle.serde_json.proofs.Views.{Entry}
use Rattle.it_making.proofs.nesting.+nests.Given as goal

abbrev pub invariant-items_nest_within-loop-item : goal.invariant-items_nest_within-loop-item
invariant-items_nest_within-loop-item l =
    items_depth (items_view (take l.item-index l.item-items)) ≤ l.levels

-- those so far are not too deep, and what is left follows
abbrev pub invariant-members_nest_within-loop-name : goal.invariant-members_nest_within-loop-name
invariant-members_nest_within-loop-name l =
    (done : List Entry) × (l.members.entries ≡ done ++ l._name-iterator)
    × (members_depth (members_view done) ≤ l.levels)
