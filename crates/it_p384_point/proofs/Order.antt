-- The order of the base point, by computing.
use Rattle.std.proofs.Common.{◌≡◌, refl}
use Rattle.it_p384_point.specs.Points.{sum_of, double_of, base, infinity, sum_of_multiples}

-- that many times the base point is infinity
pub order-of_base : (sum_of_multiples 384 39402006196394479212279040100143613805079739270465446667946905279627659399113263569398956308152294913554433653942643 0 base infinity).z ≡ 0
unfolding sum_of double_of sum_of_multiples
order-of_base = refl

-- and so is a sum of two multiples, by two numbers whose sum is the order
pub order-of_sum : (sum_of_multiples 384 13134002065464826404093013366714537935026579756821815555982301759875886466371087856466318769384098304518144551314214 26268004130929652808186026733429075870053159513643631111964603519751772932742175712932637538768196609036289102628429 base base).z ≡ 0
unfolding sum_of double_of sum_of_multiples
order-of_sum = refl
