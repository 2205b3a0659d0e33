use Rattle.it_prov_notes.proofs.NextLine.{is_next, other_next}
use Rattle.it_prov_notes.proofs.lines_left.LinesLeft.next_at.Goals as goal

pub returns-then-next-place : goal.returns-then-next-place
returns-then-next-place c = λ line lines are.
    other_next c.args.place line lines c.args.self.now.envelopes.now c.args.self.now.places.now are
    c.in_ok-next.next.now c.in_ok-next.places.now c.in_ok-next.ensures.cases.0
    c.if-next-place.true

pub returns : goal.returns
returns c = λ line lines are.
    is_next c.args.place line lines c.args.self.now.envelopes.now c.args.self.now.places.now are
    c.in_ok-next.places.now (rw c.if-next-place.false at c.in_ok-next.ensures.cases.0)
    c.in_ok-envelope.envelope.now c.in_ok-envelope.envelopes.now c.in_ok-envelope.ensures.cases.0
