use Rattle.std.proofs.Common.{◌≡◌, ◌+◌, ◌-◌, ◌%◌, ◌/◌, arith, append-nil, append_assoc, length}
use Rattle.std.proofs.Common.{length-append, length-set, ap, ◌∙◌}
use Rattle.std.specs.Fmt.{decimal}
use Rattle.std.proofs.lemmas.Fmt.{decimal_digit, decimal_nonempty, decimal_step, length-decimal-le}
use Rattle.std.proofs.lemmas.List.{drop-set, drop_all}
use Rattle.it_dsse.proofs.decimal.write_decimal.Goals as goal

pub loop-left-init : goal.loop-left-init
loop-left-init c = record {
  within = omega arith;
  long = omega arith;
  room = length-decimal-le 20 c.args.number (omega arith) (omega arith) c.ranges.number.fits;
  written = rw (drop_all 20 c.args.digits.now (omega arith), append-nil);
}

pub overflow_sub-at : goal.overflow_sub-at
overflow_sub-at c = omega (
  arith,
  c.loop-left.invariant.room,
  decimal_nonempty c.loop-left.left c.loop-left.auto.left-fits.fits,
)

pub loop-left-preserved : goal.loop-left-preserved
loop-left-preserved c =
    let l = c.loop-left in
    let step = decimal_step l.left (omega arith) l.auto.left-fits.fits in
    let longer : length (decimal l.left) ≡ length (decimal (l.left / 10)) + 1 = ap length step
    ∙ length-append _ _ in
    let some = decimal_nonempty l.left l.auto.left-fits.fits in
    let back : l.at - 1 + 1 ≡ l.at = omega (arith, l.invariant.room) in
    record {
      within = omega (arith, l.invariant.within);
      long = length-set l.digits (l.at - 1) (48 + l.left % 10) ∙ l.invariant.long;
      room = omega (arith, l.invariant.room);
      written = rw (
        drop-set l.digits (l.at - 1) _
            (omega (arith, l.invariant.room, l.invariant.within, l.invariant.long)),
        back,
      )
          (rw (step, append_assoc) at l.invariant.written);
    }

pub overflow_sub-digits : goal.overflow_sub-digits
overflow_sub-digits c = omega (
  arith,
  c.loop-left.invariant.room,
  decimal_nonempty c.loop-left.left c.loop-left.auto.left-fits.fits,
)

pub overflow_sub-result : goal.overflow_sub-result
overflow_sub-result c = omega (
  arith,
  c.loop-left.invariant.room,
  decimal_nonempty c.loop-left.left c.loop-left.auto.left-fits.fits,
)

pub returns-clause-written : goal.returns-clause-written
returns-clause-written c =
    let l = c.loop-left in
    let some = decimal_nonempty l.left l.auto.left-fits.fits in
    let back : l.at - 1 + 1 ≡ l.at = omega (arith, l.invariant.room) in
    rw (
      drop-set l.digits (l.at - 1) _
          (omega (arith, l.invariant.room, l.invariant.within, l.invariant.long)),
      back,
    )
    (rw (decimal_digit l.left (omega arith)) at l.invariant.written)
