use Rattle.std.proofs.Common.{◌≡◌, ℕ, List, ◌++◌}
use Rattle.std.specs.FinMap.{entries}
use Rattle.it_base.specs.Table.{named_entries}
use Rattle.it_dsse.specs.declared.key_object.KeyObject.{KeyObject}
use Rattle.it_findings.specs.Joined.{JoinedEach}
use Rattle.it_findings.specs.IdentityFindings.{KeyFindings}
use Rattle.it_findings.proofs.identity_findings.each_key.Given as goal

-- the entries so far and those that are left, with what was found
abbrev pub invariant-loop-id : goal.invariant-loop-id
invariant-loop-id l = record {
  done : List (List ℕ × KeyObject);
  all : entries l.keys ≡ done ++ named_entries l.id-iterator;
  found : JoinedEach (KeyFindings l.list) done l.found.items;
}
