use Rattle.it_json_report.proofs.NamesDiffering.{json_names_differ as proof}
use Rattle.it_json_report.proofs.laws.json_names_differ.Goals as goal

pub returns : goal.returns
returns c = proof
