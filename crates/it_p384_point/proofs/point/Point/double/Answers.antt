use Rattle.it_p384_point.specs.Points.{double_of}
use Rattle.it_p384_point.proofs.point.Point.double.Goals as goal

pub returns : goal.returns
unfolding double_of
returns c = cc
