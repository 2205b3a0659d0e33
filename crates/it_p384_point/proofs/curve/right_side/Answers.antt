use Rattle.it_p384_point.proofs.Sides.{right_side_by}
use Rattle.it_p384_point.proofs.curve.right_side.Goals as goal

pub returns : goal.returns
returns c =
    right_side_by c.args.x.now _ _ _ _ _ _ c.multiply.ensures c.three.ensures c.subtract.ensures c.multiply-2.ensures
    c.curve_constant.ensures c.add.ensures
