use Rattle.std.proofs.Common.{sym}
use Rattle.it_vouched.proofs.KnownLines.{known_vouched, still_right}
use Rattle.it_vouched.proofs.known_lines.KnownLines.judged.Goals as goal

pub returns-in-Some-clause-vouched : goal.returns-in-Some-clause-vouched
returns-in-Some-clause-vouched c =
    known_vouched c.args.trust.now c.args.self.now c.requires c.args.line.now c.in-Some.judged.now
    (sym c.in-Some.ensures.value) c.copy.result c.copy.ensures

pub returns-clause-right : goal.returns-clause-right
returns-clause-right c =
    still_right c.args.trust.now c.args.self.now c.keep.new.self c.args.line.now c.in_ok-judged.judged
    c.requires (record { vouched = c.in_ok-judged.ensures.vouched; misses = c.in_ok-judged.ensures.misses })
    c.in_ok-keep.ensures
