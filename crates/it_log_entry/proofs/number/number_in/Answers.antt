use Rattle.it_log_entry.proofs.Numbers.{not_parsed, not_written, too_great}
use Rattle.it_log_entry.proofs.number.number_in.Goals as goal

pub returns-in_default : goal.returns-in_default
returns-in_default c = λ n. not_parsed c.args.text.now n c.parse.result c.in_default.field-0
    c.parse.ensures.value.0 c.in_default.is

pub returns-then-number-gt-GREATEST : goal.returns-then-number-gt-GREATEST
returns-then-number-gt-GREATEST c = λ n. too_great c.args.text.now n c.in-Ok.number c.parse.result
    c.parse.ensures.value.0 c.in-Ok.is c.if-number-gt-GREATEST.true

pub returns-else-branch : goal.returns-else-branch
returns-else-branch c = λ n. not_written c.args.text.now n c.in-Ok.number c.parse.result
    c.parse.ensures.value.0 c.in-Ok.is
    (λ same. let yes = c.in_ok-is_written.ensures.1 same in cc)
