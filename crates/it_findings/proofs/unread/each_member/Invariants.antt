use Rattle.std.proofs.Common.{◌≡◌, List, ◌++◌}
use Rattle.it_findings.specs.Joined.{JoinedEach}
use Rattle.it_findings.specs.Members.{UnreadMember, entries_in}
use Rattle.it_borrowed.specs.NamedMembers.{NamedMember, members_in}
use Rattle.it_findings.proofs.unread.each_member.Given as goal

-- the members so far and those that are left, with what was found
abbrev pub invariant-loop-name : goal.invariant-loop-name
invariant-loop-name l = record {
  done : List NamedMember;
  all : l.fn.members.entries ≡ done ++ l.name-iterator;
  found : JoinedEach (UnreadMember l.place) (entries_in (members_in done)) l.found.items;
}
