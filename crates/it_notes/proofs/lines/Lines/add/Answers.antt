use Rattle.it_notes.proofs.Holding.{hold_counted, hold_more}
use Rattle.it_notes.proofs.lines.Lines.add.Goals as goal

pub returns-then-self-gt-MOST : goal.returns-then-self-gt-MOST
returns-then-self-gt-MOST g c = λ all h. hold_counted all c.args.self.now h
    (g.N.Line.line c.args.note.now) c.saturating_add-self.result c.saturating_add-self.ensures
    c.if-self-gt-MOST.true

pub returns : goal.returns
returns g c = λ all h. hold_more all c.args.self.now h
    (g.N.Line.line c.args.note.now) c.saturating_add-self.result c.saturating_add-self.ensures
    c.if-self-gt-MOST.false c.push.new.self c.push_line.new.text c.in_ok-push.ensures.items
    (rw c.new-line.ensures.items at c.in_ok-push_line.ensures)
