use Rattle.std.proofs.Common.{inr}
use Rattle.it_findings.proofs.Reaching.{fails}
use Rattle.it_findings.proofs.in_step_keys.unknown_key.Goals as goal

pub returns-then-not-has_no_object : goal.returns-then-not-has_no_object
returns-then-not-has_no_object c =
    inr (
      fails c.has_no_object.result c.has_no_object.ensures c.if-not-has_no_object.true,
      c.new.ensures.items,
    )
