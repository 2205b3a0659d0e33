use Rattle.std.proofs.Common.{arith}
use Rattle.it_limb_slices.specs.Limbs.{number_of}
use Rattle.it_p384_point.proofs.curve.curve_constant.Goals as goal

pub from_montgomery_form-requires : goal.from_montgomery_form-requires
unfolding number_of
from_montgomery_form-requires c = omega arith

pub returns : goal.returns
unfolding number_of
returns c = c.from_montgomery_form.ensures
