use Rattle.it_base.specs.Table.{named_entries}
use Rattle.it_prov.proofs.SameKeys.{Walked}
use Rattle.it_prov.proofs.same_keys.are_same.Given as goal

-- the entries so far are the same
abbrev pub invariant-loop-id : goal.invariant-loop-id
invariant-loop-id l =
    Walked l.one l.other (named_entries l.id-iterator) (named_entries l.others)
