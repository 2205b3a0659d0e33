use Rattle.it_vouched.proofs.counted_lines.judged_of_one.Goals as goal

pub returns-clause-vouched : goal.returns-clause-vouched
returns-clause-vouched c = rw c.in_ok-trust.ensures.answer at c.of_one.ensures.vouched

pub returns-clause-silent : goal.returns-clause-silent
returns-clause-silent c = rw c.in_ok-trust.ensures.answer at c.of_one.ensures.silent
