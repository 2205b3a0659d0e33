use Rattle.it_docs.proofs.rule.read_rule.Goals as goal

pub returns : goal.returns
returns c = rw (c.as_slice.ensures.value, c.in_ok-texts.ensures) at c.found_rule.ensures
