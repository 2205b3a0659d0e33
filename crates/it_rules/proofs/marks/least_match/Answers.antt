use Rattle.std.proofs.Common.{◌<◌, length, get_or, arith, true≢false, sym, ◌∙◌, []}
use Rattle.std.proofs.lemmas.Option.{slice_get-get_or}
use Rattle.it_rules.proofs.Searching.{least_found, none_more}
use Rattle.it_rules.proofs.marks.least_match.Goals as goal
use Rattle.it_rules.proofs.marks.least_match.Goals.{
  else-not-marks-place-via-then-not-marks-place+else-matches,
}
use Rattle.it_rules.proofs.marks.least_match.Goals.{else-not-marks-place-via-else-not-marks-place}

pub returns-then-matches : goal.returns-then-matches
returns-then-matches c =
    let paths = c.args.paths.now in
    let place = c.loop-place.place in
    let within : place < length paths = omega (arith, c.pattern_range-start.ensures.within) in
    let path = get_or paths place (record { ref_ptr = (0, 0); now = [] }) in
    least_found paths c.requires.paths c.args.marks.now c.args.pattern.now place path
    (slice_get-get_or paths place (record { ref_ptr = (0, 0); now = [] }) within)
    c.if-not-marks-place.true (c.matches.ensures.0 c.if-matches.true) c.loop-place.invariant

pub loop-place-preserved : goal.loop-place-preserved
loop-place-preserved c =
    let paths = c.args.paths.now in
    let place = c.loop-place.place in
    let within : place < length paths = omega (arith, c.pattern_range-start.ensures.within) in
    let path = get_or paths place (record { ref_ptr = (0, 0); now = [] }) in
    none_more paths c.args.marks.now c.args.pattern.now place path
    (slice_get-get_or paths place (record { ref_ptr = (0, 0); now = [] }) within)
    (elim c.else-not-marks-place.branch [
      | else-not-marks-place-via-then-not-marks-place+else-matches w ↦ λ u m. true≢false
          (sym (w.matches.ensures.1 m) ∙ w.if-matches.false)
      | else-not-marks-place-via-else-not-marks-place w ↦ λ u m. true≢false
          (sym w.if-not-marks-place.false ∙ u)
    ])
    c.loop-place.invariant
