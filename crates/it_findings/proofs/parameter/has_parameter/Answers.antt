use Rattle.std.specs.Str.{byte}
use Rattle.std.proofs.Common.{◌≡◌}
use Rattle.it_findings.specs.Parameters.{BeginsName}
use Rattle.it_findings.proofs.Reaching.{fails, goes_on, stops}
use Rattle.it_findings.proofs.parameter.has_parameter.Goals as goal

pub returns-then-begins_parameter : goal.returns-then-begins_parameter
returns-then-begins_parameter c =
    stops (λ x. Unit {0}) (λ x after. (x ≡ byte "{") × BeginsName after) c.args.text.now
    c.loop-first.rest.now c.in-Some.first.now c.in-Some.after.now c.in-Some.ensures.cases.0
    (c.begins_parameter.ensures.0 c.if-begins_parameter.true) c.loop-first.invariant

pub loop-first-preserved : goal.loop-first-preserved
loop-first-preserved c =
    goes_on (λ x. Unit {0}) (λ x after. (x ≡ byte "{") × BeginsName after) c.args.text.now
    c.loop-first.rest.now c.in-Some.first.now c.in-Some.after.now c.in-Some.ensures.cases.0 tt
    (fails c.begins_parameter.result c.begins_parameter.ensures c.if-begins_parameter.false)
    c.loop-first.invariant
