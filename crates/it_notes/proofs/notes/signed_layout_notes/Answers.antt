use Rattle.it_notes.proofs.notes.signed_layout_notes.Goals as goal

pub returns-in_ok-of-in-Known : goal.returns-in_ok-of-in-Known
returns-in_ok-of-in-Known c = λ panel inputs is_basis.
    c.in_ok-of-in-Known.ensures panel inputs (rw c.in-Known.is at is_basis)

pub returns-in_ok-of_unread-in-Begun : goal.returns-in_ok-of_unread-in-Begun
returns-in_ok-of_unread-in-Begun c = λ panel inputs is_basis.
    c.in_ok-of_unread-in-Begun.ensures inputs (rw c.in-Begun.is at is_basis).envelope
