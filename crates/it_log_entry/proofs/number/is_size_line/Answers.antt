use Rattle.std.proofs.Common.{arith}
use Rattle.it_log_entry.proofs.Bodies.{mapped, refused}
use Rattle.it_log_entry.proofs.Numbers.{no_size, size_is_utf8, written_size}
use Rattle.it_log_entry.proofs.number.is_size_line.Goals as goal

pub returns-in_default : goal.returns-in_default
returns-in_default c = refused _ (λ is. c.in_default.ensures.cases.0 (size_is_utf8 c.args.line.now is.0 is.1))

pub returns-in_default-parse : goal.returns-in_default-parse
returns-in_default-parse c =
    let text = c.in-Ok.ensures.cases.0 in
    let parsed = rw text at c.parse.ensures.value.0 in
    refused _ (no_size c.args.line.now c.parse.result c.in_default-parse.field-0 parsed c.in_default-parse.is)

pub returns : goal.returns
returns c =
    let text = c.in-Ok.ensures.cases.0 in
    let parsed = rw text at c.parse.ensures.value.0 in
    mapped c.is_written.result _ _ (λ b test. written_size c.args.line.now c.in-Ok-parse.number c.parse.result b
    (omega arith) parsed c.in-Ok-parse.is (rw text at test)) c.is_written.ensures
