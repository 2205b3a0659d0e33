use Rattle.std.proofs.Common.{arith}
use Rattle.it_trust_root.proofs.Fractions.{digits_are_text, number_parsed}
use Rattle.it_trust_root.proofs.time.number_of.Goals as goal

pub returns-in_default : goal.returns-in_default
returns-in_default c = λ all. (rw c.in_default.is at c.from_utf8.ensures.cases).0
    (digits_are_text c.args.digits.now all)

pub returns : goal.returns
returns c = rw c.ok.ensures.value (number_parsed c.args.digits.now c.parse.result (omega arith)
    c.if-not-is_ascii_digit.ensures.cases (rw c.in-Ok.ensures.cases.0 at c.parse.ensures.value.0))
