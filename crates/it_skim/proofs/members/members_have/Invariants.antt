use Rattle.std.proofs.Common.{◌≡◌, ◌↔◌, length, IsTrue, Option, Some}
use Rattle.json.specs.Json.{Json, string}
use Rattle.it_skim.proofs.Walking.{SoFar}
use Rattle.it_skim.proofs.members.members_have.Given as goal

-- the last of the name so far, and whether it is the text
abbrev pub invariant-loop-next : goal.invariant-loop-next
invariant-loop-next l = record {
  seen : Option Json;
  so_far : SoFar l.name l.fn.reader l.reader seen;
  is : IsTrue l.has ↔ (seen ≡ Some (string l.wanted));
}

abbrev pub decreases-loop-next : goal.decreases-loop-next
decreases-loop-next l = length l.reader
