use Rattle.std.proofs.Common.{◌∙◌, ◌<◌, ◌+◌, [], ◌∷◌, length, map, get_or, arith, subst, sym}
use Rattle.std.proofs.Common.{true≢false}
use Rattle.std.proofs.lemmas.List.{map-append}
use Rattle.it_rules.proofs.Kept.{Kept, kept_more, kept_none, kept_skip}
use Rattle.it_rules.proofs.LentPaths.{bytes}
use Rattle.it_rules.proofs.Unmarked.{Unmarked, are_left, sorted_bytes, text_at}
use Rattle.it_rules.proofs.marks.unmarked.Goals as goal
use Rattle.it_rules.proofs.marks.unmarked.Goals.{then-not-marks-place+in_ok-push}
use Rattle.it_rules.proofs.marks.unmarked.Goals.{else-not-marks-place}

pub loop-place-init : goal.loop-place-init
loop-place-init c =
    rw c.new-left.ensures.items (kept_none (map bytes c.args.paths.now)
    (Unmarked c.args.paths.now c.args.marks.now))

pub loop-place-preserved : goal.loop-place-preserved
loop-place-preserved c =
    let paths = c.args.paths.now in
    let marks = c.args.marks.now in
    let place = c.loop-place.place in
    let left = c.loop-place.left.items in
    let within : place < length paths = omega arith in
    let lent = get_or paths place (record { ref_ptr = (0, 0); now = [] }) in
    let here = text_at paths marks place (record { ref_ptr = (0, 0); now = [] }) within in
    elim c.if-not-marks-place.branch [
      | then-not-marks-place+in_ok-push w ↦
          rw (w.left-is, w.in_ok-push.ensures.items)
          (subst (λ kept. Kept (map bytes paths) (Unmarked paths marks) kept (place + 1))
          (sym (map-append bytes left (lent ∷ [])))
          (kept_more (map bytes paths) (Unmarked paths marks)
          (sorted_bytes paths c.requires.paths.in_order) (map bytes left) place lent.now here
          w.if-not-marks-place.true c.loop-place.invariant))
      | else-not-marks-place w ↦
          rw w.left-is (kept_skip (map bytes paths) (Unmarked paths marks) (map bytes left) place
          lent.now here (λ u. true≢false (sym w.if-not-marks-place.false ∙ u))
          c.loop-place.invariant)
    ]

pub returns : goal.returns
returns c =
    are_left c.args.paths.now c.args.marks.now (map bytes c.loop-place.left.items)
    c.loop-place.place (omega arith) c.loop-place.invariant
