use Rattle.std.proofs.Common.{◌≡◌, take}
use Rattle.it_repeats.proofs.repeated_member.copy_place.Given as goal

abbrev pub invariant-loop-segment : goal.invariant-loop-segment
invariant-loop-segment l = l.copy.items ≡ take l.segment-index l.place
