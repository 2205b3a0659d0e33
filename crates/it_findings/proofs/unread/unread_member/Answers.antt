use Rattle.std.proofs.Common.{inr}
use Rattle.it_findings.proofs.unread.unread_member.Goals as goal

pub returns-then-has_meaning : goal.returns-then-has_meaning
returns-then-has_meaning c =
    inr (λ none. none (c.has_meaning.ensures.0 c.if-has_meaning.true), c.new.ensures.items)
