use Rattle.std.proofs.Common.{◌∙◌, arith, refl, ap}
use native.Mathlib.Nat.{div-one}
use Rattle.it_ed_point.specs.Curve.{sum_of}
use Rattle.it_ed_point.specs.inside.Doubles.{doubled}
use Rattle.it_ed_point.proofs.Adding.{odd_place, even_place, no_place}
use Rattle.it_ed_point.proofs.Doubles.{next_double, double_in}
use Rattle.it_ed_point.proofs.multiplier.Multiplier.multiply.Goals as goal
use Rattle.it_ed_point.proofs.multiplier.Multiplier.multiply.Goals.{then-bit_at, else-bit_at}

pub loop-place-init : goal.loop-place-init
unfolding doubled
loop-place-init c = rw (div-one, c.neutral-total.ensures) refl

pub loop-place-preserved : goal.loop-place-preserved
loop-place-preserved c =
    let n = c.args.scalar.now in
    let p = c.args.self.now in
    let l = c.loop-place in
    elim c.if-bit_at.branch [
      | then-bit_at w ↦ odd_place 253 l.place n l.total (doubled l.place p) _ _ _ _ c.loop-place-test.true
          c.bit_at.ensures w.if-bit_at.true
          (w.total-is ∙ w.add-total.ensures ∙ ap (sum_of l.total)
          (double_in l.place c.self.inside.point p _ c.self.inside.doubles.items c.self.invariant c.loop-place-test.true c.self.view_is w.index.ensures)) (next_double l.place p) l.invariant
      | else-bit_at w ↦ even_place 253 l.place n l.total (doubled l.place p) _ _ _ _ c.loop-place-test.true
          c.bit_at.ensures w.if-bit_at.false w.total-is (next_double l.place p) l.invariant
    ]

pub returns : goal.returns
returns c =
    let l = c.loop-place in
    no_place 253 l.place c.args.scalar.now l.total (doubled l.place c.args.self.now) _ (omega arith) l.invariant
