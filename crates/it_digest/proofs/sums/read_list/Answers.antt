use Rattle.std.proofs.Common.{◌≡◌, ◌+◌, [], ap, arith, eqb-true, length, subst, sym}
use Rattle.std.proofs.lemmas.List.{nil_from_length}
use Rattle.it_digest.specs.Sums.{IsFirstBadLine, algorithm_of, lines_of}
use Rattle.it_digest.proofs.SumsLemmas.{HasRead-all, HasRead-bad, HasRead-more, HasRead-none}
use Rattle.it_digest.proofs.SumsLemmas.{IsFirstBadLine-none, SumsOf_same}
use Rattle.it_digest.proofs.sums.read_list.Goals as goal
use Rattle.it_digest.proofs.sums.read_list.Goals.{After-drop-sums-inside-then-not-branch}

pub loop-rest-init : goal.loop-rest-init
loop-rest-init c = record {
  so_far = rw c.new-sums.ensures (HasRead-none _ c.args.bytes.now);
  in_range = omega arith;
}

pub loop-rest-preserved : goal.loop-rest-preserved
loop-rest-preserved c =
    let shorter = c.split_line.ensures.shorter in
    record {
      so_far = HasRead-more _ _ _ _ _ _ _ _ c.loop-rest.invariant.so_far c.split_line.ensures.lines
          (rw c.if-not-branch.false at c.in_ok-add_sum.ensures);
      in_range = omega arith;
    }

first_bad : (c : After-drop-sums-inside-then-not-branch) → IsFirstBadLine
    (algorithm_of c.args.algorithm)
    c.args.bytes.now
    (c.loop-rest.number + 1)
first_bad c = HasRead-bad _ _ _ _ (lines_of c.split_line.result.1.now) _ _
    c.loop-rest.invariant.so_far c.split_line.ensures.lines
    (rw c.if-not-branch.true at c.in_ok-add_sum.ensures)

pub returns-then-not-branch-clause-first_bad : goal.returns-then-not-branch-clause-first_bad
returns-then-not-branch-clause-first_bad c line is =
    let same : c.loop-rest.number + 1 ≡ line = cc is in
    subst (IsFirstBadLine (algorithm_of c.args.algorithm)
    c.args.bytes.now) same (first_bad c)

pub returns-then-not-branch-clause-none : goal.returns-then-not-branch-clause-none
returns-then-not-branch-clause-none c _ _ = IsFirstBadLine-none _ _ _ (first_bad c)

pub returns-clause-only : goal.returns-clause-only
returns-clause-only c other =
    let none : lines_of c.loop-rest.rest.now ≡ [] =
    ap lines_of (nil_from_length c.loop-rest.rest.now
    (eqb-true (length c.loop-rest.rest.now) 0 (sym c.loop-rest-test.ensures))) in
    SumsOf_same _ _ _ _ (HasRead-all _ _ _ _ (rw none at c.loop-rest.invariant.so_far))
