use Rattle.it_part_notes.proofs.SumLines.{gives_read, is_named}
use Rattle.it_part_notes.proofs.sum_line.path_in.Goals as goal

pub returns-in-Ok : goal.returns-in-Ok
returns-in-Ok c =
    let read = c.in-Ok.ensures.cases in
    let path = c.in-Some-after_mark.path.now in
    rw read.0 (gives_read _ c.args.line.now c.in-Some-after_digits.text.now path
    c.in-Some-after_digits.ensures c.in-Some-after_mark.ensures
    (is_named path c.if-is_empty.ensures) read.1)
