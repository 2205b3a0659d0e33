use Rattle.it_rule_notes.proofs.expiry_note.expiry_note.Goals as goal

pub returns-in_default : goal.returns-in_default
returns-in_default c = λ note tells.
    (rw c.in_default.is at c.in_ok-expires.ensures) note.expires tells.is_written
