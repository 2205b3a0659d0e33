use Rattle.std.proofs.Common.{◌≡◌, ℕ, List, take, option_map, Bor}
use Rattle.std.specs.declared.alloc.Global.{Global}
use Rattle.std.specs.FinMap.{get}
use Rattle.json.specs.Value.{members_view}
use Rattle.json.specs.declared.value.Value.{Value}
use Rattle.serde_json.specs.Data.{no_members}
use Rattle.serde_json.specs.Find.{get_member}
use Rattle.it_base.specs.Table.{Named}
use Rattle.it_base.proofs.TableMade.{Holds}
use Rattle.it_borrowed.specs.Tree.{as_data, data_of_members}
use Rattle.it_borrowed.proofs.table.last_members.Given as goal

-- the map of what was read so far
abbrev pub invariant-loop-member : goal.invariant-loop-member
invariant-loop-member l = record {
  read : Named (Bor (Value Global));
  holds : Holds read l.named.items;
  are : (name : List ℕ) → option_map (λ v. as_data v.now) (get read name)
      ≡ get_member name
      (data_of_members (members_view (take l.member-index l.member-items)) no_members);
}
