use Rattle.std.proofs.Common.{◌≡◌, ◌∙◌, ◌++◌, ap, arith, subst}
use Rattle.it_base.specs.Finds.{Finds}
use Rattle.it_limits.specs.Limit.{IsOverLimit}
use Rattle.it_limits.proofs.LinesWritten.{looked_kept, looked_none, looked_over}
use Rattle.it_limits.proofs.lines.lines_within_limit.Goals as goal
use Rattle.it_limits.proofs.lines.lines_within_limit.Goals.{in-None+in_ok-extend_from_slice-in-None}
use Rattle.it_limits.proofs.lines.lines_within_limit.Goals.{in-Some+in_ok-push-in-Some}

pub loop-rest-init : goal.loop-rest-init
loop-rest-init c = record {
  so_far = rw (c.new-lines.ensures.items, c.new-left_out.ensures.items)
      (looked_none c.args.provenance.now);
  in_range = omega arith;
}

pub loop-rest-preserved : goal.loop-rest-preserved
loop-rest-preserved c =
    let shorter = c.split_line.ensures.shorter in
    let l = c.loop-rest in
    let line = c.split_line.result.0.now in
    let found = c.in_ok-signatures_over_limit.ensures in
    record {
      so_far = elim c.match-branch-2.branch [
        | in-None+in_ok-extend_from_slice-in-None w ↦
            let lines : c.match-branch-2.lines.items ≡ l.lines.items ++ line =
            ap (λ v. v.items) w.lines-is ∙ w.in_ok-extend_from_slice-in-None.ensures.items in
            let left : c.match-branch-2.left_out.items ≡ l.left_out.items =
            ap (λ v. v.items) w.left_out-is in
            rw (c.in_ok-push.ensures.items, lines, left)
            (looked_kept _ _ _ _ _ l.invariant.so_far line _ c.split_line.ensures.lines
            (subst (Finds (IsOverLimit line)) w.in-None.is found))
        | in-Some+in_ok-push-in-Some w ↦
            let lines : c.match-branch-2.lines.items ≡ l.lines.items =
            ap (λ v. v.items) w.lines-is in
            let left = ap (λ v. v.items) w.left_out-is ∙ w.in_ok-push-in-Some.ensures.items in
            rw (c.in_ok-push.ensures.items, lines, left)
            (looked_over _ _ _ _ _ l.invariant.so_far line _ c.split_line.ensures.lines
            w.in-Some.signatures (subst (Finds (IsOverLimit line)) w.in-Some.is found))
      ];
      in_range = omega arith;
    }
