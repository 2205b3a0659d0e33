use Rattle.std.proofs.Common.{inr}
use Rattle.it_findings.proofs.Reaching.{fails}
use Rattle.it_findings.proofs.key_members.private_key.Goals as goal

pub returns-then-not-has_private : goal.returns-then-not-has_private
returns-then-not-has_private c =
    inr (
      fails c.has_private.result c.has_private.ensures c.if-not-has_private.true,
      c.new.ensures.items,
    )
