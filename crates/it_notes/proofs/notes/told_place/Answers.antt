use Rattle.it_notes.proofs.Levels.{own_inputs}
use Rattle.it_notes.proofs.notes.told_place.Goals as goal

pub place_notes-requires : goal.place_notes-requires
place_notes-requires g c =
    let found = c.in-Refused-Known in
    own_inputs (g.C.Checks.panel c.args.checks.now) c.requires.0 found.known
    (rw found.is-1 at c.requires.1.basis)
