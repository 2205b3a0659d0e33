use Rattle.it_findings.proofs.Joining.{joined_more}
use Rattle.it_findings.specs.StepKeyFindings.{UnknownKeyFindings}
use Rattle.it_findings.proofs.in_step_keys.unknown_keys.Goals as goal

pub loop-place-preserved : goal.loop-place-preserved
loop-place-preserved c =
    rw c.in_ok-append.ensures.items
    (joined_more (UnknownKeyFindings c.args.layout.now c.args.at.now) c.args.ids.now
    c.loop-place.place c.index-ids-place.result c.loop-place.found.items
    c.in_ok-here.here.items c.loop-place-test.true c.index-ids-place.is c.loop-place.invariant
    c.in_ok-here.ensures)
