use Rattle.it_ed_point.specs.Curve.{sum_of}
use Rattle.it_ed_point.proofs.point.Point.add.Goals as goal

pub returns : goal.returns
unfolding sum_of
returns c = cc
