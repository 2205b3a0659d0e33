use Rattle.it_p384_point.specs.Points.{first_coordinate}
use Rattle.it_p384_point.proofs.point.Point.first_coordinate.Goals as goal

pub returns : goal.returns
unfolding first_coordinate
returns c = cc
