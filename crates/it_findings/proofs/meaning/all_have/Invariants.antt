use Rattle.std.proofs.Common.{All, take}
use Rattle.it_findings.specs.Members.{HasMeaning}
use Rattle.it_findings.proofs.meaning.all_have.Given as goal

-- the names of the members so far have a meaning
abbrev pub invariant-loop-member : goal.invariant-loop-member
invariant-loop-member l =
    All (λ member. HasMeaning l.place member.0.now) (take l.member-index l.members)
