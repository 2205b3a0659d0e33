use Rattle.it_ed_laws.proofs.Neutral.{neutral_after, neutral_before}
use Rattle.it_ed_laws.proofs.laws.sum_with_neutral.Goals as goal

pub returns-clause-after : goal.returns-clause-after
returns-clause-after c = neutral_after

pub returns-clause-before : goal.returns-clause-before
returns-clause-before c = neutral_before
