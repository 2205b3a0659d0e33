use Rattle.std.proofs.Common.{◌≡◌, List, ◌++◌}
use Rattle.serde_json.specs.View.{members_view}
use Rattle.serde_json.proofs.Views.{Entry}
use Rattle.it_base.specs.Table.{AreMembers, Named}
use Rattle.it_base.proofs.TableMade.{Holds}
use Rattle.it_base.proofs.table.read_members.Given as goal

-- what was read so far and what is left, with the map of what was read
abbrev pub invariant-loop-name : goal.invariant-loop-name
invariant-loop-name g l = record {
  done : List Entry;
  read : Named _;
  all : l.members.entries ≡ done ++ l.name-iterator;
  are : AreMembers g.V.FromDocument.is_of (members_view done) read;
  holds : Holds read l.named.items;
}
