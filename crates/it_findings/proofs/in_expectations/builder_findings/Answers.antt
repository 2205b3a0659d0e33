use Rattle.it_findings.proofs.Saying.{said_where}
use Rattle.it_findings.specs.declared.finding.Finding.TheVariants.{NoBuilders}
use Rattle.it_findings.proofs.in_expectations.builder_findings.Goals as goal

pub returns : goal.returns
returns c =
    said_where c.has_none.result (NoBuilders c.args.place) c.said.result
    (rw c.as_slice-builders.ensures at c.has_none.ensures) c.said.ensures
