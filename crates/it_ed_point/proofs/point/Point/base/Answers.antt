use Rattle.it_ed_field.specs.Limbs.{number_of}
use Rattle.it_ed_point.proofs.point.Point.base.Goals as goal

pub returns : goal.returns
unfolding number_of
returns c = cc
