use Rattle.std.proofs.Common.{inr}
use Rattle.it_findings.proofs.shared_keys.shared_with.Goals as goal

pub returns-then-is_same : goal.returns-then-is_same
returns-then-is_same c =
    inr (λ no. no (c.is_same.ensures.0 c.if-is_same.true), c.new.ensures.items)
