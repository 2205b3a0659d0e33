use Rattle.it_prov.proofs.Possible.{AreUnderBelow}
use Rattle.it_prov.proofs.builders_by_id.BuildersById.of.Given as goal

abbrev pub invariant-loop-place : goal.invariant-loop-place
invariant-loop-place l = AreUnderBelow l.place l.builder-items l.ids
