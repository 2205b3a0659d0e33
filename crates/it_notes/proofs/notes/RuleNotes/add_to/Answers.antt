use Rattle.it_notes.proofs.Holding.{adds_then}
use Rattle.it_notes.proofs.notes.RuleNotes.add_to.Goals as goal

pub returns : goal.returns
returns c =
    let old = c.args.lines.now in
    let first = c.add.new.self in
    adds_then _ _ old first _ c.in_ok-add.ensures
    (adds_then _ _ first c.add_judged.new.lines _
    (adds_then _ _ first c.add_some.new.lines _ c.in_ok-add_some.ensures
    c.in_ok-add_judged.ensures) c.in_ok-add_returned.ensures)
