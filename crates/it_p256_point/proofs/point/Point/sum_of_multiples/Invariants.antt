use Rattle.std.proofs.Common.{◌≡◌, ◌-◌, ◌/◌, ◌^◌}
use Rattle.it_p256_limbs.specs.Numbers.{value_of}
use Rattle.it_p256_point.specs.Points.{sum_of_multiples}
use Rattle.it_p256_point.proofs.point.Point.sum_of_multiples.Given as goal

abbrev pub invariant-loop-i : goal.invariant-loop-i
invariant-loop-i l =
    l.total ≡ sum_of_multiples l.i (value_of l.n / 2 ^ (256 - l.i)) (value_of l.m / 2 ^ (256 - l.i)) l.fn.self l.fn.other
