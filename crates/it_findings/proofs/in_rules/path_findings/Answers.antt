use Rattle.std.proofs.Common.{inr}
use Rattle.it_findings.proofs.Reaching.{fails}
use Rattle.it_findings.proofs.in_rules.path_findings.Goals as goal

pub returns-then-not-names_parameter : goal.returns-then-not-names_parameter
returns-then-not-names_parameter c =
    inr (
      fails c.names_parameter.result c.names_parameter.ensures c.if-not-names_parameter.true,
      c.new.ensures.items,
    )
