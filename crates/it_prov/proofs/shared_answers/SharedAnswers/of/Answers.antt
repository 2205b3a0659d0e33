use Rattle.it_prov.proofs.Sharing.{answers_serve, tells_signed}
use Rattle.it_prov.proofs.shared_answers.SharedAnswers.of.Goals as goal

pub of-requires : goal.of-requires
of-requires g c = c.asked.invariant.listed

pub invariant_of-result : goal.invariant_of-result
invariant_of-result g c =
    let panel = g.C.Checks.panel c.args.checks.now in
    let asked = c.asked.inside in
    rw c.as_slice.ensures.value (tells_signed panel c.args.envelope.now asked.distinct.builders.items
    c.in_ok-some.some c.in_ok-some.ensures asked.expectations.now asked.places.items
    c.asked.invariant.asked)

pub returns : goal.returns
returns g c =
    let panel = g.C.Checks.panel c.args.checks.now in
    let asked = c.asked.inside in
    rw (← c.asked.view_is, c.as_slice.ensures.value) (answers_serve panel c.args.envelope.now
    asked.distinct.builders.items c.in_ok-some.some c.in_ok-some.ensures asked.expectations.now
    asked.places.items c.asked.invariant.asked.same)
