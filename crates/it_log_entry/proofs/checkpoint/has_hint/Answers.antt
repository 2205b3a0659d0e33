use Rattle.it_log_entry.proofs.checkpoint.has_hint.Goals as goal

pub returns-in-Some-clause-hint : goal.returns-in-Some-clause-hint
returns-in-Some-clause-hint c =
    rw (c.in-Some.ensures.cases.0, c.digest-digest.ensures, c.info.ensures) at c.begins.ensures
