use Rattle.std.proofs.Common.{refl}
use Rattle.itv_cases.proofs.cases.case.Case.run.Goals as goal

pub returns : goal.returns
returns c = record {
  name = refl;
  wanted = refl;
  given = rw c.into_vec.ensures at c.in_ok-given.ensures;
}
