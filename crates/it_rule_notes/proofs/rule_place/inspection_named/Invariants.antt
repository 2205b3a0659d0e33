use Rattle.std.proofs.Common.{◌≢◌, All, take}
use Rattle.it_docs.specs.declared.step.Inspection.{Inspection}
use Rattle.it_rule_notes.proofs.rule_place.inspection_named.Given as goal

-- no inspection so far has the name
abbrev pub invariant-loop-inspection : goal.invariant-loop-inspection
invariant-loop-inspection l =
    All (λ (inspection : Inspection). inspection.name ≢ l.name) (take l.inspection-index l.inspections)
