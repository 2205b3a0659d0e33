use Rattle.std.proofs.Common.{◌∙◌, arith, refl}
use native.Mathlib.Nat.{div-one}
use Rattle.it_ed_point.proofs.Adding.{odd_place, even_place, no_place}
use Rattle.it_ed_point.proofs.point.Point.multiply.Goals as goal
use Rattle.it_ed_point.proofs.point.Point.multiply.Goals.{then-bit_at, else-bit_at}

pub loop-place-init : goal.loop-place-init
loop-place-init c = rw (div-one, c.neutral-total.ensures, c.copy-step.ensures) refl

pub loop-place-preserved : goal.loop-place-preserved
loop-place-preserved c =
    let n = c.args.scalar.now in
    let l = c.loop-place in
    elim c.if-bit_at.branch [
      | then-bit_at w ↦ odd_place 253 l.place n l.total l.step _ _ _ _ c.loop-place-test.true
          c.bit_at.ensures w.if-bit_at.true (w.total-is ∙ w.add-total.ensures) c.double-step.ensures l.invariant
      | else-bit_at w ↦ even_place 253 l.place n l.total l.step _ _ _ _ c.loop-place-test.true
          c.bit_at.ensures w.if-bit_at.false w.total-is c.double-step.ensures l.invariant
    ]

pub returns : goal.returns
returns c =
    let l = c.loop-place in
    no_place 253 l.place c.args.scalar.now l.total l.step _ (omega arith) l.invariant
