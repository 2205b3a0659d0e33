use Rattle.std.proofs.Common.{inr}
use Rattle.it_findings.proofs.Reaching.{fails}
use Rattle.it_findings.proofs.identity_findings.of_identity.Goals as goal

pub returns-then-not-signs_by_identity : goal.returns-then-not-signs_by_identity
returns-then-not-signs_by_identity c =
    inr (
      fails c.signs_by_identity.result c.signs_by_identity.ensures
          c.if-not-signs_by_identity.true,
      c.new.ensures.items,
    )
