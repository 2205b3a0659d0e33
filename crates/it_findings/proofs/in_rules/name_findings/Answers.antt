use Rattle.std.proofs.Common.{inr}
use Rattle.it_findings.proofs.Reaching.{fails}
use Rattle.it_findings.proofs.in_rules.name_findings.Goals as goal

pub returns-then-not-is_unknown : goal.returns-then-not-is_unknown
returns-then-not-is_unknown c =
    inr (fails c.is_unknown.result c.is_unknown.ensures c.if-not-is_unknown.true, c.new.ensures.items)
