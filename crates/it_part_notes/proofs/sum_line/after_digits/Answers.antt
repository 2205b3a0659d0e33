use Rattle.it_part_notes.proofs.sum_line.after_digits.Goals as goal

pub returns-in_err-text : goal.returns-in_err-text
returns-in_err-text c = rw c.from_residual.ensures
    (λ text follows. c.in_err-text.ensures (follows.0, text) follows.1)

pub returns : goal.returns
returns c = (c.in_ok-text.field-0-0, c.in_ok-text.ensures)
