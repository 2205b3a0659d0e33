use Rattle.std.proofs.Common.{◌≡◌, ◌++◌, map}
use Rattle.std.specs.Vec.Iter.{into_iter_items}
use Rattle.it_dsse.specs.Ring.{ring_check}
use Rattle.itv_cases.proofs.cases.case.answer_by.OwnLists.{own-1}
use Rattle.itv_cases.proofs.cases.case.answer_by.Given as goal

abbrev pub invariant-loop-ring : goal.invariant-loop-ring
invariant-loop-ring l = (l.yielded ++ into_iter_items l.ring-iterator ≡ l.fn.rings.items)
    × (map (λ boxed. (own-1.entry boxed.vtable).1.meaning boxed.value) l.panel.items
    ≡ map ring_check l.yielded)
