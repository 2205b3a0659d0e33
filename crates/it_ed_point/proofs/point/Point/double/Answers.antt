use Rattle.it_ed_point.specs.Curve.{double_of}
use Rattle.it_ed_point.proofs.Twice.{twice_square}
use Rattle.it_ed_point.proofs.point.Point.double.Goals as goal

pub returns : goal.returns
unfolding double_of
returns c =
    let twice = twice_square c.args.self.now.z _ _ c.square-square.ensures c.add-c.ensures in cc
