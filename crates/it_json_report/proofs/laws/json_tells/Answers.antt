use Rattle.it_json_report.proofs.Telling.{json_tells as proof}
use Rattle.it_json_report.proofs.laws.json_tells.Goals as goal

pub returns : goal.returns
returns c = proof
