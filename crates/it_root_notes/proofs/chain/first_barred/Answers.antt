use Rattle.it_root_notes.proofs.Chains.{one_barred, one_issues}
use Rattle.it_root_notes.proofs.chain.first_barred.Goals as goal

pub returns-in-Some : goal.returns-in-Some
returns-in-Some c =
    one_barred c.in-Some.reason c.loop-place.place c.args.certificates.now
    c.index-certificates-place.result c.loop-place-test.true c.index-certificates-place.is
    c.loop-place.invariant (rw c.in-Some.is at c.issuing_shortfall.ensures)

pub loop-place-preserved : goal.loop-place-preserved
loop-place-preserved c =
    one_issues c.loop-place.place c.args.certificates.now c.index-certificates-place.result
    c.loop-place-test.true c.index-certificates-place.is c.loop-place.invariant
    (rw c.in_default.is at c.issuing_shortfall.ensures)
