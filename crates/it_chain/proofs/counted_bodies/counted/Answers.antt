use Rattle.std.proofs.lemmas.Result.{IfOk-weaker}
use Rattle.it_chain.specs.inside.CountedBodies.{Counts}
use Rattle.it_chain.specs.inside.Hints.{admitted_for}
use Rattle.it_chain.proofs.Admitted.{asks_all, counts_all}
use Rattle.it_chain.proofs.counted_bodies.counted.Goals as goal

pub returns-clause-answer : goal.returns-clause-answer
returns-clause-answer g c =
    let panel = (g.C.Checking.setting c.args.walk.now.checking.now).panel in
    let step = c.args.step.now in
    let id = c.args.signer.now.id.now in
    let object = c.args.signer.now.object.now in
    let all = c.args.envelopes.now in
    IfOk-weaker c.counted_among.result (Counts panel step id object (admitted_for id all))
    (Counts panel step id object all) (counts_all panel step id object all)
    (rw (c.as_slice.ensures.value, c.in_ok-admitted.ensures) at c.counted_among.ensures.answer)

pub returns-clause-asked : goal.returns-clause-asked
returns-clause-asked g c =
    asks_all c.args.signer.now.id.now c.args.envelopes.now c.args.meter.now
    c.counted_among.new.meter c.counted_among.result
    (rw (c.as_slice.ensures.value, c.in_ok-admitted.ensures) at c.counted_among.ensures.asked)
