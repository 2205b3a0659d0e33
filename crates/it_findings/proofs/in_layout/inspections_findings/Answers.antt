use Rattle.it_findings.proofs.Joining.{joined_more}
use Rattle.it_findings.specs.LayoutFindings.{InspectionFindings}
use Rattle.it_findings.proofs.in_layout.inspections_findings.Goals as goal

pub loop-place-preserved : goal.loop-place-preserved
loop-place-preserved c =
    let below = rw c.as_slice-inspection-items.ensures at c.loop-place-test.true in
    let here = rw c.as_slice-inspection-items.ensures at c.inspection-item.is in
    rw c.in_ok-append.ensures.items
    (joined_more (InspectionFindings c.args.layout.now) c.args.layout.now.inspections c.loop-place.place
    c.inspection-item.result c.loop-place.found.items c.in_ok-here.here.items below here
    c.loop-place.invariant c.in_ok-here.ensures)
