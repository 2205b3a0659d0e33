use Rattle.std.proofs.Common.{take}
use Rattle.json.specs.Value.{members_view}
use Rattle.serde_json.specs.Data.{no_members}
use Rattle.it_base.specs.Table.{AreMembers, Named}
use Rattle.it_base.proofs.TableMade.{Holds}
use Rattle.it_borrowed.specs.Tree.{data_of_members}
use Rattle.it_borrowed.proofs.table.read_each.Given as goal

-- the map of what was read so far
abbrev pub invariant-loop-member : goal.invariant-loop-member
invariant-loop-member g l = record {
  read : Named _;
  holds : Holds read l.named.items;
  are : AreMembers g.V.FromBorrowed.is_of
      (data_of_members (members_view (take l.member-index l.member-items)) no_members) read;
}
