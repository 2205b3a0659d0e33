-- The order of the base point, by computing.
use Rattle.std.proofs.Common.{◌≡◌, true, refl}
use Rattle.it_ed_scalar.specs.Order.{order}
use Rattle.it_ed_point.specs.Curve.{added, sum_of, double_of, base, multiple_of, is_neutral}

-- L times B is the neutral point
pub order-of_base : is_neutral (multiple_of order base) ≡ true
unfolding added sum_of double_of
order-of_base = refl
