use Rattle.it_findings.specs.Parameters.{IsNameByte}
use Rattle.it_findings.proofs.Reaching.{fails, goes_on, stays, stops}
use Rattle.std.specs.Str.{byte}
use Rattle.std.proofs.Common.{◌≡◌}
use Rattle.it_findings.proofs.parameter.ends_name.Goals as goal

pub returns-then-first-eq125 : goal.returns-then-first-eq125
returns-then-first-eq125 c =
    stops IsNameByte (λ x after. x ≡ byte "}") c.args.text.now c.loop-first.rest.now
    c.in-Some.first.now c.in-Some.after.now c.in-Some.ensures.cases.0 c.if-first-eq125.true
    c.loop-first.invariant

pub returns-then-not-is_name_byte : goal.returns-then-not-is_name_byte
returns-then-not-is_name_byte c =
    stays IsNameByte (λ x after. x ≡ byte "}") c.args.text.now c.loop-first.rest.now
    c.in-Some.first.now c.in-Some.after.now c.in-Some.ensures.cases.0
    (fails c.is_name_byte.result c.is_name_byte.ensures c.if-not-is_name_byte.true)
    c.if-first-eq125.false c.loop-first.invariant

pub loop-first-preserved : goal.loop-first-preserved
loop-first-preserved c =
    goes_on IsNameByte (λ x after. x ≡ byte "}") c.args.text.now c.loop-first.rest.now
    c.in-Some.first.now c.in-Some.after.now c.in-Some.ensures.cases.0
    (c.is_name_byte.ensures.0 c.if-not-is_name_byte.false)
    c.if-first-eq125.false c.loop-first.invariant
