use Rattle.it_ed_field.specs.Limbs.{number_of}
use Rattle.it_ed_point.proofs.constants.twice_curve_constant.Goals as goal

pub returns : goal.returns
unfolding number_of
returns c = c.from_limbs.ensures
