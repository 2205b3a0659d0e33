use Rattle.it_rules.proofs.Reached.{match_covers}
use Rattle.it_rules.proofs.reach.claimed_range.Goals as goal

pub returns-in-Match : goal.returns-in-Match
returns-in-Match c = rw c.in-Match.is
    (match_covers _ _ _ _ _ _ _ (rw c.as_str.ensures at c.match_range.ensures))
