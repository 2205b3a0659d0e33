use Rattle.it_part_notes.proofs.sum_line_note.fault_of.Goals as goal

pub returns-in-Ok : goal.returns-in-Ok
returns-in-Ok c = c.repeated.ensures c.args.line.now c.in-Ok.ensures
