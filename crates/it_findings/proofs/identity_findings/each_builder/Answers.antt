use Rattle.it_findings.specs.IdentityFindings.{BuilderKeyFindings}
use Rattle.it_findings.proofs.Joining.{joined_more}
use Rattle.it_findings.proofs.identity_findings.each_builder.Goals as goal

pub loop-place-preserved : goal.loop-place-preserved
loop-place-preserved c =
    rw c.in_ok-append.ensures.items
    (joined_more (BuilderKeyFindings c.args.expectation) c.args.builders.now c.loop-place.place
    c.index-builders-place.result c.loop-place.found.items c.in_ok-here.here.items
    c.loop-place-test.true c.index-builders-place.is c.loop-place.invariant
    c.in_ok-here.ensures)
