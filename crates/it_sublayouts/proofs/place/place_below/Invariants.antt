use Rattle.std.proofs.Common.{◌≡◌, take}
use Rattle.it_sublayouts.proofs.place.place_below.Given as goal

-- the places so far
abbrev pub invariant-loop-outer : goal.invariant-loop-outer
invariant-loop-outer l = l.place.items ≡ take l.outer-index l.at
