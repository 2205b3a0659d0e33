use Rattle.std.proofs.Common.{arith}
use Rattle.it_limb_slices.specs.Limbs.{number_of}
use Rattle.it_p384_point.proofs.Adding.{all_places, next_place, no_place}
use Rattle.it_p384_point.proofs.point.Point.sum_of_multiples.Goals as goal

pub loop-i-init : goal.loop-i-init
loop-i-init c = no_place _ _ (number_of c.args.n.now) (number_of c.args.m.now) _ c.infinity-total.ensures

pub loop-i-preserved : goal.loop-i-preserved
loop-i-preserved c = let l = c.loop-i in
    next_place _ _ (number_of c.args.n.now) (number_of c.args.m.now) l.i _ _ l.total _ _
    c.loop-i-test.true c.bit_at-first.ensures c.bit_at-second.ensures l.invariant c.double.ensures
    c.added_to-total.ensures

pub returns : goal.returns
returns c =
    all_places _ _ (number_of c.args.n.now) (number_of c.args.m.now) c.loop-i.i c.loop-i.total (omega arith)
    c.loop-i.invariant
