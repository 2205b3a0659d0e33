use Rattle.it_report.proofs.Reports.{first_lines_tell as proof}
use Rattle.it_report.proofs.laws.first_lines_tell.Goals as goal

pub returns : goal.returns
returns c = proof
