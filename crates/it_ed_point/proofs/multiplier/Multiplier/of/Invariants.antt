use Rattle.std.proofs.Common.{◌≡◌}
use Rattle.it_ed_point.specs.inside.Doubles.{AreDoubles, doubled}
use Rattle.it_ed_point.proofs.multiplier.Multiplier.of.Given as goal

abbrev pub invariant-loop-place : goal.invariant-loop-place
invariant-loop-place l = (l.step ≡ doubled l.place l.fn.point) × AreDoubles l.place l.fn.point l.doubles.items
