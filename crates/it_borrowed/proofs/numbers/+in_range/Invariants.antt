use Rattle.std.proofs.Common.{◌≡◌, drop}
use Rattle.json.specs.Value.{items_view, members_view}
use Rattle.it_borrowed.specs.inside.InRange.{items_in_range, members_in_range}
use Rattle.it_borrowed.proofs.numbers.+in_range.Given as goal

-- all of them are in range as those are that are left
abbrev pub invariant-items_have_numbers_in_range-loop-item :
    goal.invariant-items_have_numbers_in_range-loop-item
invariant-items_have_numbers_in_range-loop-item l =
    items_in_range (items_view l.item-items)
    ≡ items_in_range (items_view (drop l.item-index l.item-items))

abbrev pub invariant-members_have_numbers_in_range-loop-member :
    goal.invariant-members_have_numbers_in_range-loop-member
invariant-members_have_numbers_in_range-loop-member l =
    members_in_range (members_view l.member-items)
    ≡ members_in_range (members_view (drop l.member-index l.member-items))
