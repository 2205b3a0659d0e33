use Rattle.std.proofs.Common.{append_assoc}
use Rattle.it_part_notes.proofs.sum_line_words.push_fault.Goals as goal

pub returns-in_ok-push_numbered-in-Digits : goal.returns-in_ok-push_numbered-in-Digits
returns-in_ok-push_numbered-in-Digits c = rw (c.in-Digits.is) (rw append_assoc at
    (rw (c.in_ok-push_numbered-in-Digits.ensures, c.digits_words.ensures) at
    c.push_text-in-Digits.ensures))

pub returns-in_ok-push_text-in-NoDigits : goal.returns-in_ok-push_text-in-NoDigits
returns-in_ok-push_text-in-NoDigits c = rw (c.in-NoDigits.is) (rw append_assoc at
    (rw (c.in_ok-push_text-in-NoDigits.ensures, c.digits_words-in-NoDigits.ensures) at
    c.push_text-in-NoDigits-2.ensures))
