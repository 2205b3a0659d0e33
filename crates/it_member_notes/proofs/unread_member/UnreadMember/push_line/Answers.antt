use Rattle.it_member_notes.proofs.Appending.{and_then}
use Rattle.it_member_notes.proofs.unread_member.UnreadMember.push_line.Goals as goal

pub returns : goal.returns
returns c =
    let old = c.args.out.now.items in
    and_then old _ _ c.push_close.new.out.items _
    (and_then old _ _ c.push_told.new.out.items _
    (and_then old _ _ c.push_place.new.out.items _ c.in_ok-push_place.ensures
    (rw c.as_str.ensures at c.in_ok-push_told.ensures)) c.in_ok-push_close.ensures)
    c.in_ok-push_text.ensures
