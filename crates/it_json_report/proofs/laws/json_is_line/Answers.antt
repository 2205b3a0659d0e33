use Rattle.it_json_report.proofs.OneLineVerdicts.{json_is_line as proof}
use Rattle.it_json_report.proofs.laws.json_is_line.Goals as goal

pub returns : goal.returns
returns c = proof
