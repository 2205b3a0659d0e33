use Rattle.it_ed_laws.proofs.Constants.{base_on_curve, neutral_on_curve}
use Rattle.it_ed_laws.proofs.laws.constants_are_on_curve.Goals as goal

pub returns-clause-neutral_point : goal.returns-clause-neutral_point
returns-clause-neutral_point c = neutral_on_curve

pub returns-clause-base_point : goal.returns-clause-base_point
returns-clause-base_point c = base_on_curve
