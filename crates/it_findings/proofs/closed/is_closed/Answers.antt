use Rattle.it_findings.specs.Closed.{Closes, Opens}
use Rattle.it_findings.proofs.Reaching.{fails, goes_on, stays, stops}
use Rattle.it_findings.proofs.closed.is_closed.Goals as goal

pub returns-then-closes : goal.returns-then-closes
returns-then-closes c =
    stops (λ rule. ¬ Opens c.args.list.now rule) (λ rule after. Closes rule) c.args.rules.now
    c.loop-rule.rest.now c.in-Some.rule.now c.in-Some.after.now c.in-Some.ensures.cases.0
    (c.closes.ensures.0 c.if-closes.true) c.loop-rule.invariant

pub returns-then-opens : goal.returns-then-opens
returns-then-opens c =
    stays (λ rule. ¬ Opens c.args.list.now rule) (λ rule after. Closes rule) c.args.rules.now
    c.loop-rule.rest.now c.in-Some.rule.now c.in-Some.after.now c.in-Some.ensures.cases.0
    (λ not. not (c.opens.ensures.0 c.if-opens.true))
    (fails c.closes.result c.closes.ensures c.if-closes.false) c.loop-rule.invariant

pub loop-rule-preserved : goal.loop-rule-preserved
loop-rule-preserved c =
    goes_on (λ rule. ¬ Opens c.args.list.now rule) (λ rule after. Closes rule) c.args.rules.now
    c.loop-rule.rest.now c.in-Some.rule.now c.in-Some.after.now c.in-Some.ensures.cases.0
    (fails c.opens.result c.opens.ensures c.if-opens.false)
    (fails c.closes.result c.closes.ensures c.if-closes.false) c.loop-rule.invariant
