use Rattle.it_rule_notes.proofs.owner_note.owner_note.Goals as goal

pub unsigned_note-requires : goal.unsigned_note-requires
unsigned_note-requires g c = λ signer. let yes = c.in_ok-signed.ensures.answer.1 signer in
    cc (yes, c.if-signed.false)
