use Rattle.it_findings.proofs.Joining.{joined_more}
use Rattle.it_findings.specs.LayoutFindings.{StepFindings}
use Rattle.it_findings.proofs.in_layout.steps_findings.Goals as goal

pub loop-place-preserved : goal.loop-place-preserved
loop-place-preserved c =
    let below = rw c.as_slice-step-items.ensures at c.loop-place-test.true in
    let here = rw c.as_slice-step-items.ensures at c.step-item.is in
    rw c.in_ok-append.ensures.items
    (joined_more (StepFindings c.args.layout.now) c.args.layout.now.steps c.loop-place.place
    c.step-item.result c.loop-place.found.items c.in_ok-here.here.items below here
    c.loop-place.invariant c.in_ok-here.ensures)
