use Rattle.it_base.specs.Table.{named_entries}
use Rattle.it_prov.proofs.Possible.{UnderSoFar}
use Rattle.it_prov.proofs.builders_by_id.put_under_ids.Given as goal

abbrev pub invariant-loop-id : goal.invariant-loop-id
invariant-loop-id l = UnderSoFar l.fn.ids l.keys l.place l.ids (named_entries l.id-iterator)
