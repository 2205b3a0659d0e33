use Rattle.std.proofs.Common.{◌==◌}
use Rattle.std.specs.Cmp.{unsigned_Decides}
use Rattle.it_findings.proofs.Saying.{said_where}
use Rattle.it_findings.specs.declared.finding.Finding.TheVariants.{NoLevel}
use Rattle.it_findings.proofs.in_expectations.level_findings.Goals as goal

pub returns : goal.returns
returns c =
    let level = c.args.expectation.now.level in
    said_where (level == 0) (NoLevel c.args.place) c.said.result (unsigned_Decides level 0)
    c.said.ensures
