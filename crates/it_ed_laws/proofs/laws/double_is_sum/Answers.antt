use Rattle.it_ed_laws.proofs.Doubles.{doubled}
use Rattle.it_ed_laws.proofs.laws.double_is_sum.Goals as goal

pub returns : goal.returns
returns c = doubled
