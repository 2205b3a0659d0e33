use Rattle.std.proofs.Common.{append_assoc}
use Rattle.it_prov_notes.proofs.note.ProvenanceNote.push_line.Goals as goal

pub returns : goal.returns
returns c =
    let said = rw append_assoc at
    (rw c.in_ok-push_numbering.ensures at c.in_ok-push_shortfall.ensures) in
    rw append_assoc at (rw said at c.push_words.ensures)
