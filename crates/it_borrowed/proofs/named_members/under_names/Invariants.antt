use Rattle.std.proofs.Common.{◌≡◌, take}
use Rattle.json.specs.Value.{members_view}
use Rattle.serde_json.specs.Data.{no_members}
use Rattle.it_borrowed.specs.Tree.{data_of_members}
use Rattle.it_borrowed.specs.NamedMembers.{members_in}
use Rattle.it_borrowed.proofs.named_members.under_names.Given as goal

abbrev pub invariant-loop-member : goal.invariant-loop-member
invariant-loop-member l =
    members_in l.named.entries
    ≡ data_of_members (members_view (take l.member-index l.member-items)) no_members
