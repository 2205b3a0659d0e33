use Rattle.std.proofs.Common.{inr}
use Rattle.it_findings.proofs.Reaching.{fails}
use Rattle.it_findings.proofs.missing_thresholds.no_threshold.Goals as goal

pub returns-then-not-has_no_threshold : goal.returns-then-not-has_no_threshold
returns-then-not-has_no_threshold c =
    inr (
      fails c.has_no_threshold.result c.has_no_threshold.ensures c.if-not-has_no_threshold.true,
      c.new.ensures.items,
    )
