use Rattle.it_vouched.proofs.Parts.{none_left, part_lacking, part_taken}
use Rattle.it_vouched.proofs.joining.is_joined.Goals as goal

pub returns-in-None : goal.returns-in-None
returns-in-None c = part_lacking c.loop-part.rest.now c.args.parts.now c.loop-part.part-index _
    c.loop-part-test.true _ c.in-None.ensures.cases c.loop-part.invariant

pub loop-part-preserved : goal.loop-part-preserved
loop-part-preserved c =
    let found = c.in-Some.ensures.cases in
    part_taken c.loop-part.rest.now c.args.parts.now c.loop-part.part-index _
    c.loop-part-test.true c.in-Some.after.now _ found.0 found.1 c.loop-part.invariant

pub returns : goal.returns
returns c = none_left c.loop-part.rest.now c.args.parts.now c.loop-part.part-index
    c.loop-part-test.false _ _ c.is_empty.ensures c.loop-part.invariant
