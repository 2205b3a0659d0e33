use Rattle.it_limb_slices.specs.Limbs.{number_of}
use Rattle.it_p384.proofs.Combining.{combination_by}
use Rattle.it_p384.proofs.verification.combination.Goals as goal

pub returns : goal.returns
returns c =
    combination_by c.args.key.now (number_of c.args.e.now) (number_of c.args.r.now) (number_of c.args.s.now)
    _ _ _ _ _ _ _ _ _ _ _ c.requires.r_below c.requires.s_below
    c.from_limbs.ensures c.inverse-inverse.ensures
    c.from_limbs-2.ensures c.multiply.ensures c.to_limbs-first.ensures.value
    c.from_limbs-3.ensures c.multiply-2.ensures c.to_limbs-second.ensures.value
    c.base.ensures c.point.ensures c.sum_of_multiples.ensures
