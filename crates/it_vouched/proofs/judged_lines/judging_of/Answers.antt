use Rattle.std.proofs.Common.{◌∙◌, [], arith, refl}
use Rattle.it_vouched.proofs.Judging.{judged_more}
use Rattle.it_vouched.proofs.KnownLines.{none_known}
use Rattle.it_vouched.proofs.judged_lines.judging_of.Goals as goal

pub loop-rest-init : goal.loop-rest-init
loop-rest-init c = record {
  judged = record {
    done = [];
    lines_are = refl;
    vouched = c.new-all.ensures.items;
    number_is = refl;
    are_silent = c.new-silent.ensures.items;
    in_range = omega arith;
  };
  known = none_known c.args.trust.now c.new-known.result c.new-known.ensures;
  most = refl;
  grows = omega arith;
}

pub loop-rest-preserved : goal.loop-rest-preserved
loop-rest-preserved c =
    let l = c.loop-rest in
    let judged = c.in_ok-judged.ensures in
    record {
      judged = rw (c.in_ok-push_some.ensures, c.in_ok-push_some-2.ensures)
          (judged_more _ _ _ _ _ _ l.invariant.judged c.split_line.result.0.now c.split_line.result.1.now
          c.split_line.ensures.lines c.split_line.ensures.shorter _ judged.vouched _ judged.misses _ c.silent_line.ensures);
      known = judged.right;
      most = judged.most ∙ l.invariant.most;
      grows = omega (arith, judged.grows, l.invariant.grows);
    }

pub judged-requires : goal.judged-requires
judged-requires c = c.loop-rest.invariant.known
