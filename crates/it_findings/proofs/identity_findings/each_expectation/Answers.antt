use Rattle.it_findings.specs.IdentityFindings.{ExpectationKeyFindings}
use Rattle.it_findings.proofs.Joining.{joined_more}
use Rattle.it_findings.proofs.identity_findings.each_expectation.Goals as goal

pub loop-place-preserved : goal.loop-place-preserved
loop-place-preserved c =
    rw c.in_ok-append.ensures.items
    (joined_more ExpectationKeyFindings c.args.expectations.now c.loop-place.place
    c.index-expectations-place.result c.loop-place.found.items c.in_ok-here.here.items
    c.loop-place-test.true c.index-expectations-place.is c.loop-place.invariant
    (rw c.as_slice.ensures at c.in_ok-here.ensures))
