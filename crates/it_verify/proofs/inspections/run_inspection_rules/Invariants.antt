use Rattle.std.proofs.Common.{◌≡◌, List, ◌++◌, zip}
use Rattle.std.specs.Iterator.Adapters.{zip_first, zip_second}
use Rattle.std.specs.List.{AllByRecursion}
use Rattle.std.specs.Slice.Iter.{iter_rest}
use Rattle.it_docs.specs.declared.link.Link.{Link}
use Rattle.it_docs.specs.declared.step.Inspection.{Inspection}
use Rattle.it_rules.specs.Item.{links_of}
use Rattle.it_verify.specs.Inspections.{InspectionRulesHold}
use Rattle.it_verify.proofs.inspections.run_inspection_rules.Given as goal

-- the rules of the inspections so far hold, and what is left follows
abbrev pub invariant-loop-inspection : goal.invariant-loop-inspection
invariant-loop-inspection l =
    (done : List (Inspection × Link))
    × (zip l.inspections l.recorded ≡ done ++ zip (iter_rest (zip_first l.inspection-iterator))
    (iter_rest (zip_second l.inspection-iterator)))
    × AllByRecursion (λ p. InspectionRulesHold (links_of l.links) p.0 p.1) done
