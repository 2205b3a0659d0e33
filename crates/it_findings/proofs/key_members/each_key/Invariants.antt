use Rattle.std.proofs.Common.{◌≡◌, List, ◌++◌}
use Rattle.it_findings.specs.Joined.{JoinedEach}
use Rattle.it_findings.specs.Members.{ListedKeyMembers, entries_in}
use Rattle.it_borrowed.specs.NamedMembers.{NamedMember, members_in}
use Rattle.it_findings.proofs.key_members.each_key.Given as goal

-- the members so far and those that are left, with what was found
abbrev pub invariant-loop-id : goal.invariant-loop-id
invariant-loop-id l = record {
  done : List NamedMember;
  all : l.fn.keys.entries ≡ done ++ l.id-iterator;
  found : JoinedEach (ListedKeyMembers l.list) (entries_in (members_in done)) l.found.items;
}
