use Rattle.std.specs.Option.{option_copied}
use Rattle.it_findings.proofs.Joining.{joined_more}
use Rattle.it_findings.specs.RuleFindings.{OneFindings}
use Rattle.it_findings.proofs.in_rules.each_findings.Goals as goal

pub loop-place-preserved : goal.loop-place-preserved
loop-place-preserved c =
    rw c.in_ok-append.ensures.items
    (joined_more (OneFindings (option_copied c.args.layout) c.args.list.now) c.args.rules.now
    c.loop-place.place c.index-rules-place.result c.loop-place.found.items
    c.in_ok-here.here.items c.loop-place-test.true c.index-rules-place.is c.loop-place.invariant
    c.in_ok-here.ensures)
