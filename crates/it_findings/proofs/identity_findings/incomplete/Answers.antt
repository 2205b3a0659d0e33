use Rattle.std.proofs.Common.{inr}
use Rattle.it_findings.proofs.Reaching.{fails}
use Rattle.it_findings.proofs.identity_findings.incomplete.Goals as goal

pub returns-then-not-is_incomplete : goal.returns-then-not-is_incomplete
returns-then-not-is_incomplete c =
    inr (
      fails c.is_incomplete.result c.is_incomplete.ensures c.if-not-is_incomplete.true,
      c.new.ensures.items,
    )
