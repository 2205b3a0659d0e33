use Rattle.std.proofs.Common.{append-nil, append_assoc}
use Rattle.it_json_report.proofs.fault_members.push_line_by_sha512.Goals as goal

pub returns : goal.returns
returns c = rw append-nil (rw append_assoc at
    (rw c.in_ok-push_text_member.ensures at c.push_number_member.ensures))
