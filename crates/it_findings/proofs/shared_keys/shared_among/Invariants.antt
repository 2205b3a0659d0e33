use Rattle.std.proofs.Common.{take}
use Rattle.it_findings.specs.Joined.{JoinedEach}
use Rattle.it_findings.specs.SharedKeys.{SharedIn}
use Rattle.it_findings.proofs.shared_keys.shared_among.Given as goal

abbrev pub invariant-loop-at : goal.invariant-loop-at
invariant-loop-at l = JoinedEach (SharedIn l.uses) (take l.at-index l.uses) l.found.items
