use Rattle.it_member_notes.proofs.Appending.{and_then}
use Rattle.it_member_notes.proofs.layout_line.push_no_key_object.Goals as goal

pub returns : goal.returns
returns c = and_then c.args.out.now.items _ _ c.push_named.new.out.items _
    c.in_ok-push_named.ensures (rw c.as_str.ensures at c.in_ok-push_told.ensures)
