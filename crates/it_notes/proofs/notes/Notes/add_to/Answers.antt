use Rattle.it_notes.proofs.Holding.{adds_then}
use Rattle.it_notes.proofs.notes.Notes.add_to.Goals as goal

pub returns : goal.returns
returns c =
    let old = c.args.lines.now in
    let keys = adds_then _ _ old c.add_to.new.lines _
    (adds_then _ _ old c.add_place.new.lines _ c.in_ok-add_place.ensures c.in_ok-add_to.ensures)
    (rw c.as_slice.ensures.value at c.in_ok-add_all.ensures) in
    adds_then _ _ old c.add_members.new.lines _
    (adds_then _ _ old c.add_all.new.self _ keys c.in_ok-add_members.ensures)
    c.in_ok-add_layout.ensures
