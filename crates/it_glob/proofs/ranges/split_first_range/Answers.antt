use Rattle.std.proofs.Common.{◌≢◌, ◌≤◌, length, get_or, arith, sym, ◌∙◌}
use Rattle.std.proofs.lemmas.List.{take_rest, get_or_read}
use Rattle.it_glob.proofs.Bodies.{from_range, from_character}
use Rattle.it_glob.proofs.ranges.split_first_range.Goals as goal
use Rattle.it_glob.proofs.ranges.split_first_range.Goals.{
  else-others-ge2-via-then-others-ge2+else-others-eq45,
}
use Rattle.it_glob.proofs.ranges.split_first_range.Goals.{else-others-ge2-via-else-others-ge2}

pub returns-then-others-eq45 : goal.returns-then-others-eq45
returns-then-others-eq45 c =
    let others = c.in_ok-first.others.now in
    let dash = sym (get_or_read others 0 _ (omega arith) c.index-others-0.is 0)
    ∙ c.if-others-eq45.true in
    let last = get_or_read others 1 _ (omega arith) c.index-others-1.is 0 in
    rw (c.in_ok-first.ensures.cases.0, take_rest others 2, last)
    (from_range c.in_ok-first.first.now others c.if-others-ge2.true dash)

pub returns-else-others-ge2 : goal.returns-else-others-ge2
returns-else-others-ge2 c =
    let others = c.in_ok-first.others.now in
    let single : 2 ≤ length others → get_or others 0 0 ≢ 45 =
    elim c.else-others-ge2.branch [
      | else-others-ge2-via-then-others-ge2+else-others-eq45 w ↦
          λ long dash. w.if-others-eq45.false
          (get_or_read others 0 _ (omega arith) w.index-others-0.is 0 ∙ dash)
      | else-others-ge2-via-else-others-ge2 w ↦ λ long. absurd (omega arith)
    ] in
    rw c.in_ok-first.ensures.cases.0 (from_character c.in_ok-first.first.now others single)
