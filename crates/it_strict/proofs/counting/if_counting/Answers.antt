use Rattle.std.proofs.Common.{inr}
use Rattle.it_findings.proofs.Reaching.{fails}
use Rattle.it_strict.proofs.counting.if_counting.Goals as goal

pub returns-then-not-counts : goal.returns-then-not-counts
returns-then-not-counts c =
    inr (fails c.counts.result c.counts.ensures c.if-not-counts.true, c.new.ensures.items)
