use Rattle.it_p256_limbs.specs.Numbers.{value_of}
use Rattle.it_p256_limbs.proofs.Bytewise.{none_is}
use Rattle.it_p256_order.proofs.Constants.{modulus_is}
use Rattle.it_p256.proofs.Verdicts.{zero_refused, range_judged}
use Rattle.it_p256.proofs.verification.is_in_range.Goals as goal

pub returns-then-is_same : goal.returns-then-is_same
returns-then-is_same c = zero_refused (value_of c.args.n) _ _ none_is c.is_same.ensures c.if-is_same.true

pub returns : goal.returns
returns c = range_judged (value_of c.args.n) _ _ _ _ none_is c.is_same.ensures c.if-is_same.false modulus_is c.is_below.ensures
