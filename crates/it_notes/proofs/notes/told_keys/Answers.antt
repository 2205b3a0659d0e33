use Rattle.it_notes.proofs.notes.told_keys.Goals as goal

pub returns-in-Refused : goal.returns-in-Refused
returns-in-Refused g c = λ inputs is_basis.
    rw c.in-Refused.is (c.key_notes.ensures inputs is_basis)
