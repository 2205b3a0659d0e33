use Rattle.std.proofs.Common.{take}
use Rattle.std.specs.List.{AllZip}
use Rattle.it_verify.specs.Inspections.{HasRecorded}
use Rattle.it_verify.proofs.inspections.recorded_links.Given as goal

-- the links of the inspections so far
abbrev pub invariant-loop-inspection : goal.invariant-loop-inspection
invariant-loop-inspection l = AllZip (HasRecorded l.inputs) (take l.inspection-index l.inspections)
    l.links.items
