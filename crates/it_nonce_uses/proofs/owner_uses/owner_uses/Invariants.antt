use Rattle.std.proofs.Common.{◌≡◌, ℕ, List, ◌++◌}
use Rattle.std.specs.FinMap.{entries}
use Rattle.it_base.specs.Table.{named_entries}
use Rattle.it_dsse.specs.declared.key_object.KeyObject.{KeyObject}
use Rattle.it_findings.specs.Joined.{JoinedEach}
use Rattle.it_nonce_uses.specs.OwnerUses.{OwnerUses}
use Rattle.it_nonce_uses.proofs.owner_uses.owner_uses.Given as goal

-- the entries so far and those that are left, with the signatures of the former
abbrev pub invariant-loop-id : goal.invariant-loop-id
invariant-loop-id g l = record {
  done : List (List ℕ × KeyObject);
  all : entries l.owners ≡ done ++ named_entries l.id-iterator;
  uses : JoinedEach (OwnerUses (g.C.Checks.panel l.checks) l.envelope) done l.uses.items;
}
