use Rattle.std.proofs.Common.{◌∙◌, ap, sym}
use Rattle.it_ed_point.specs.Curve.{double_of}
use Rattle.it_ed_point.specs.inside.Doubles.{doubled}
use Rattle.it_ed_point.proofs.Doubles.{no_doubles, more_doubles, next_double}
use Rattle.it_ed_point.proofs.multiplier.Multiplier.of.Goals as goal

pub loop-place-init : goal.loop-place-init
unfolding doubled
loop-place-init c = (c.copy-step.ensures, rw c.in_ok-doubles.ensures.items (no_doubles c.args.point.now))

pub loop-place-preserved : goal.loop-place-preserved
loop-place-preserved c =
    let i = c.loop-place.place in
    let p = c.args.point.now in
    let known = c.loop-place.invariant in (
      c.double-next.ensures ∙ ap double_of known.0 ∙ sym (next_double i p),
      rw c.in_ok-push.ensures.items (more_doubles i p _ _ known.1 known.0),
    )
