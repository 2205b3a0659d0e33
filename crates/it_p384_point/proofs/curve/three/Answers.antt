use Rattle.it_limb_slices.specs.Limbs.{number_of}
use Rattle.it_p384_point.proofs.curve.three.Goals as goal

pub returns : goal.returns
unfolding number_of
returns c = c.from_limbs.ensures
