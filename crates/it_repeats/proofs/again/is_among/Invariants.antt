use Rattle.std.proofs.Common.{◌≡◌, drop}
use Rattle.it_repeats.specs.Again.{is_among}
use Rattle.it_repeats.proofs.SeenNames.{names}
use Rattle.it_repeats.proofs.again.is_among.Given as goal

-- it is left to the members from here on
abbrev pub invariant-loop-member : goal.invariant-loop-member
invariant-loop-member l =
    is_among (names (drop l.member-index l.members)) l.name ≡ is_among (names l.members) l.name
