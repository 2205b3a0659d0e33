use Rattle.it_findings.proofs.Saying.{said_where}
use Rattle.it_findings.specs.declared.finding.Finding.TheVariants.{UnreachableLevel}
use Rattle.it_findings.proofs.in_expectations.reach_findings.Goals as goal

pub returns : goal.returns
returns c =
    said_where c.is_unreachable.result (UnreachableLevel c.args.place c.args.expectation.now.level)
    c.said.result c.is_unreachable.ensures c.said.ensures
