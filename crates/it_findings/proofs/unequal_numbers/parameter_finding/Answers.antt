use Rattle.std.proofs.Common.{inr}
use Rattle.it_findings.proofs.Reaching.{fails}
use Rattle.it_findings.proofs.unequal_numbers.parameter_finding.Goals as goal

pub returns-then-not-is_unmet : goal.returns-then-not-is_unmet
returns-then-not-is_unmet c =
    inr (fails c.is_unmet.result c.is_unmet.ensures c.if-not-is_unmet.true, c.new.ensures.items)
