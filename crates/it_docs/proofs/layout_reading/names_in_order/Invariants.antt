use Rattle.std.proofs.Common.{◌≡◌, ◌++◌, map, take}
use Rattle.it_docs.proofs.layout_reading.names_in_order.Given as goal

abbrev pub invariant-loop-step : goal.invariant-loop-step
invariant-loop-step l = map (λ n. n.now) l.names.items ≡ map (λ s. s.name)
    (take l.step-index l.steps)

abbrev pub invariant-loop-inspection : goal.invariant-loop-inspection
invariant-loop-inspection l = map (λ n. n.now) l.names.items ≡ map (λ s. s.name) l.steps
    ++ map (λ i. i.name) (take l.inspection-index l.inspections)
