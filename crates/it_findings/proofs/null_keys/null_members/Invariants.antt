use Rattle.std.proofs.Common.{◌≡◌, List, ◌++◌, map}
use Rattle.it_borrowed.specs.NamedMembers.{NamedMember, members_in}
use Rattle.it_findings.specs.NullKeys.{null_ids, null_key}
use Rattle.it_findings.proofs.null_keys.null_members.Given as goal

-- the members so far and those that are left, with what was found
abbrev pub invariant-loop-name : goal.invariant-loop-name
invariant-loop-name l = record {
  done : List NamedMember;
  all : l.fn.members.entries ≡ done ++ l.name-iterator;
  found : l.found.items ≡ map (null_key l.list) (null_ids (members_in done));
}
