use Rattle.it_ed_laws.proofs.Opposites.{opposite_on_curve, opposite_sum}
use Rattle.it_ed_laws.proofs.laws.sum_with_opposite.Goals as goal

pub returns-clause-on_curve : goal.returns-clause-on_curve
returns-clause-on_curve c = opposite_on_curve

pub returns-clause-sum : goal.returns-clause-sum
returns-clause-sum c = opposite_sum
