use Rattle.std.proofs.Common.{arith}
use Rattle.it_p256_limbs.specs.Numbers.{number_of}
use Rattle.it_p256_point.proofs.curve.curve_constant.Goals as goal

pub from_montgomery_form-requires : goal.from_montgomery_form-requires
unfolding number_of
from_montgomery_form-requires c = omega arith

pub returns : goal.returns
unfolding number_of
returns c = c.from_montgomery_form.ensures
