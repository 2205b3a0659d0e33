use Rattle.it_rules.proofs.rules.missing.Goals as goal

pub returns-then-is_left : goal.returns-then-is_left
returns-then-is_left c = c.is_left.ensures.0 c.if-is_left.true
