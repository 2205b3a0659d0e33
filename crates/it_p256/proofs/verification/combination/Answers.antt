use Rattle.it_p256_limbs.specs.Numbers.{value_of}
use Rattle.it_p256.proofs.Verdicts.{combination_by}
use Rattle.it_p256.proofs.verification.combination.Goals as goal

pub returns : goal.returns
returns c =
    combination_by c.args.key.now (value_of c.args.e) (value_of c.args.signature.now.r) (value_of c.args.signature.now.s)
    _ _ _ _ _ _ _ _ _ _ _ c.requires.r_below c.requires.s_below
    c.from_limbs.ensures c.inverse-inverse.ensures
    c.from_limbs-2.ensures c.multiply.ensures c.to_limbs-first.ensures.value
    c.from_limbs-3.ensures c.multiply-2.ensures c.to_limbs-second.ensures.value
    c.base.ensures c.point.ensures c.sum_of_multiples.ensures
