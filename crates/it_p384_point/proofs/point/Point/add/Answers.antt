use Rattle.it_p384_point.specs.Points.{sum_of}
use Rattle.it_p384_point.proofs.point.Point.add.Goals as goal

pub returns : goal.returns
unfolding sum_of
returns c = cc
