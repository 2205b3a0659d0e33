use Rattle.std.proofs.Common.{rules}
use Rattle.it_json_report.proofs.full.push_accepted.Goals as goal

pub returns-in-Accepted : goal.returns-in-Accepted
returns-in-Accepted c = rw c.in-Accepted.is (search rules)
