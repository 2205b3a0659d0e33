use Rattle.std.proofs.Common.{take}
use Rattle.it_findings.specs.Joined.{Joined}
use Rattle.it_findings.specs.LayoutFindings.{InspectionFindings}
use Rattle.it_findings.proofs.in_layout.inspections_findings.Given as goal

abbrev pub invariant-loop-place : goal.invariant-loop-place
invariant-loop-place l =
    Joined (InspectionFindings l.layout) (take l.place l.layout.inspections) l.found.items
