use Rattle.it_notes.proofs.known.basis_of.Goals as goal

pub returns-in-Found-clause-basis : goal.returns-in-Found-clause-basis
returns-in-Found-clause-basis c = λ panel fault is_before.
    c.known_in.ensures.known panel (rw c.in-Found.is at is_before).0

pub returns-in-Found-clause-lines : goal.returns-in-Found-clause-lines
returns-in-Found-clause-lines c = λ panel fault is_before.
    rw c.known_in.ensures.lines (rw c.in-Found.is at is_before).1
