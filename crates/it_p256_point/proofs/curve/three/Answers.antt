use Rattle.it_p256_limbs.specs.Numbers.{number_of}
use Rattle.it_p256_point.proofs.curve.three.Goals as goal

pub returns : goal.returns
unfolding number_of
returns c = c.from_limbs.ensures
