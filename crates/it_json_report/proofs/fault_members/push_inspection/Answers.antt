use Rattle.std.proofs.Common.{append-nil}
use Rattle.it_json_report.proofs.fault_members.push_inspection.Goals as goal

pub returns : goal.returns
returns c = rw append-nil (rw c.as_str.ensures at c.push_text_member.ensures)
