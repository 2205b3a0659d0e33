use Rattle.it_signer_notes.proofs.Fronts.{goes_on, no_more, stops_at}
use Rattle.it_signer_notes.proofs.before_at.before_at.Goals as goal

pub returns-then-last-eq64 : goal.returns-then-last-eq64
returns-then-last-eq64 c =
    stops_at c.args.name.now c.loop-last.rest.now c.in-Some.front.now c.in-Some.last.now
    c.in-Some.ensures.cases.0 c.loop-last.invariant c.if-last-eq64.true

pub loop-last-preserved : goal.loop-last-preserved
loop-last-preserved c =
    goes_on c.args.name.now c.loop-last.rest.now c.in-Some.front.now c.in-Some.last.now
    c.in-Some.ensures.cases.0 c.loop-last.invariant c.if-last-eq64.false

pub returns : goal.returns
returns c =
    no_more c.args.name.now c.loop-last.rest.now
    (rw c.in_default.is at c.split_last.ensures.cases) c.loop-last.invariant
