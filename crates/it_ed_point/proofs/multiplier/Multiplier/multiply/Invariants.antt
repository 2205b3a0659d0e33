use Rattle.std.proofs.Common.{◌≡◌, ◌-◌, ◌/◌, ◌^◌}
use Rattle.it_ed_point.specs.Curve.{added, multiple_of}
use Rattle.it_ed_point.specs.inside.Doubles.{doubled}
use Rattle.it_ed_point.proofs.multiplier.Multiplier.multiply.Given as goal

abbrev pub invariant-loop-place : goal.invariant-loop-place
invariant-loop-place l =
    added (253 - l.place) (l.scalar / 2 ^ l.place) l.total (doubled l.place l.fn.self) ≡ multiple_of l.scalar l.fn.self
