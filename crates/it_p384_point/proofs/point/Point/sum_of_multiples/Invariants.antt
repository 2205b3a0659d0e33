use Rattle.std.proofs.Common.{◌≡◌, ◌-◌, ◌/◌, ◌^◌}
use Rattle.it_limb_slices.specs.Limbs.{number_of}
use Rattle.it_p384_point.specs.Points.{sum_of_multiples}
use Rattle.it_p384_point.proofs.point.Point.sum_of_multiples.Given as goal

abbrev pub invariant-loop-i : goal.invariant-loop-i
invariant-loop-i l =
    l.total ≡ sum_of_multiples l.i (number_of l.n / 2 ^ (384 - l.i)) (number_of l.m / 2 ^ (384 - l.i)) l.fn.self l.fn.other
