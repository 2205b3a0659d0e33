use Rattle.it_json_report.proofs.Beginning.{json_first as proof}
use Rattle.it_json_report.proofs.laws.json_first.Goals as goal

pub returns : goal.returns
returns c = proof
