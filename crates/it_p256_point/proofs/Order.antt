-- The order of the base point, by computing.
use Rattle.std.proofs.Common.{◌≡◌, refl}
use Rattle.it_p256_point.specs.Points.{sum_of, double_of, base, infinity, sum_of_multiples}

-- that many times the base point is infinity
pub order-of_base : (sum_of_multiples 256 115792089210356248762697446949407573529996955224135760342422259061068512044369 0 base infinity).z ≡ 0
unfolding sum_of double_of sum_of_multiples
order-of_base = refl

-- and so is a sum of two multiples, by two numbers whose sum is the order
pub order-of_sum : (sum_of_multiples 256 57896044605178124381348723462358107863763909721944423382198783851633021454295 57896044605178124381348723487049465666233045502191336960223475209435490590074 base base).z ≡ 0
unfolding sum_of double_of sum_of_multiples
order-of_sum = refl
