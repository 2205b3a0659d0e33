use Rattle.std.proofs.Common.{◌≡◌, ◌+◌, ◌*◌, ◌++◌, drop, length}
use Rattle.json.specs.Tree.{json_tokens, items_tokens, members_tokens}
use Rattle.json.specs.Value.{items_view, members_view, value_view}
use Rattle.it_repeats.specs.Repeats.{item_repeats, member_repeats}
use Rattle.it_repeats.proofs.repeats.+repeats.Given as goal

abbrev pub decreases-repeats_in : goal.decreases-repeats_in
decreases-repeats_in l = 2 * length (json_tokens (value_view l.value.now))

abbrev pub decreases-items_repeats : goal.decreases-items_repeats
decreases-items_repeats l = 2 * length (items_tokens (items_view l.items.now.items))

abbrev pub decreases-members_repeats : goal.decreases-members_repeats
decreases-members_repeats l = 2 * length (members_tokens (members_view l.members.now.items))

abbrev pub decreases-one_repeats : goal.decreases-one_repeats
decreases-one_repeats l = 2 * length (json_tokens (value_view l.member.now.1)) + 1

-- what was found, with what is found in the items that are left, is all
abbrev pub invariant-items_repeats-loop-number : goal.invariant-items_repeats-loop-number
invariant-items_repeats-loop-number l = record {
  place : l.place.items ≡ l.fn.place.items;
  all : l.found.items
      ++ item_repeats l.part l.fn.place.items l.number (items_view (drop l.number l.items.items))
      ≡ item_repeats l.part l.fn.place.items 0 (items_view l.items.items);
}

abbrev pub invariant-members_repeats-loop-number : goal.invariant-members_repeats-loop-number
invariant-members_repeats-loop-number l = record {
  place : l.place.items ≡ l.fn.place.items;
  all : l.found.items
      ++ member_repeats l.part l.fn.place.items (members_view (drop l.number l.members.items))
      ≡ member_repeats l.part l.fn.place.items (members_view l.members.items);
}
