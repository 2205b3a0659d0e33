use Rattle.std.proofs.Common.{[], ◌∷◌}
use Rattle.it_vouched.proofs.Judging.{one_silent, one_vouched}
use Rattle.it_vouched.proofs.Lines.{each_identity}
use Rattle.it_vouched.proofs.judged_lines.JudgedLines.of_one.Goals as goal

pub new-requires : goal.new-requires
new-requires c =
    rw (c.in_ok-push_some.ensures, c.new-all.ensures.items)
    (each_identity c.args.trust.now (c.args.bytes.now ∷ []) _
    (one_vouched c.args.trust.now c.args.bytes.now _ c.in_ok-judged.ensures.vouched))

pub returns-clause-vouched : goal.returns-clause-vouched
returns-clause-vouched c =
    rw (c.new.ensures, c.in_ok-push_some.ensures, c.new-all.ensures.items)
    (one_vouched c.args.trust.now c.args.bytes.now _ c.in_ok-judged.ensures.vouched)

pub returns-clause-silent : goal.returns-clause-silent
returns-clause-silent c =
    rw (c.from.ensures, c.in_ok-push_some-2.ensures, c.new-silent.ensures.items)
    (one_silent c.args.trust.now c.args.bytes.now _ c.in_ok-judged.ensures.misses _
    c.silent_line.ensures)
