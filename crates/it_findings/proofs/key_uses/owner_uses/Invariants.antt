use Rattle.std.proofs.Common.{◌≡◌, ℕ, List, ◌++◌}
use Rattle.std.specs.FinMap.{entries}
use Rattle.it_base.specs.Table.{named_entries}
use Rattle.it_dsse.specs.declared.key_object.KeyObject.{KeyObject}
use Rattle.it_findings.specs.Joined.{JoinedEach}
use Rattle.it_findings.specs.KeyUses.{OwnerUses}
use Rattle.it_findings.proofs.key_uses.owner_uses.Given as goal

-- the entries so far and those that are left, with what was found
abbrev pub invariant-loop-id : goal.invariant-loop-id
invariant-loop-id l = record {
  done : List (List ℕ × KeyObject);
  all : entries l.owners ≡ done ++ named_entries l.id-iterator;
  uses : JoinedEach OwnerUses done l.uses.items;
}
