use Rattle.it_report.proofs.ReportTelling.{report_tells as proof}
use Rattle.it_report.proofs.laws.report_tells.Goals as goal

pub returns : goal.returns
returns c = proof
