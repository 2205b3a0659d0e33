use Rattle.std.proofs.Common.{All}
use Rattle.it_borrowed.specs.Tree.{as_data}
use Rattle.it_member_notes.specs.KeyMembers.{IsKeyMember, place_of}
use Rattle.it_member_notes.specs.Places.{IsOfLayout}
use Rattle.it_member_notes.specs.UnreadMembers.{IsUnread}
use Rattle.it_member_notes.proofs.Placed.{if_ok_both, true_of_bytes}
use Rattle.it_member_notes.proofs.notes.layout_notes.Goals as goal

pub returns : goal.returns
returns c =
    let bytes = c.args.text.now in
    let document = as_data c.in-Some.document.now in
    let places = c.as_slice.result.now in
    let is = rw c.in-Some.is at c.document.ensures.document in
    let all : All IsOfLayout places = rw c.as_slice.ensures.value c.in_ok-places.ensures in
    if_ok_both c.at.result _ _ _ (λ notes unread keys. record {
      unread = true_of_bytes IsUnread IsOfLayout (λ note. note.place) bytes document places is all
          notes.unread.items unread;
      keys = true_of_bytes IsKeyMember IsOfLayout place_of bytes document places is all
          notes.keys.items keys;
    }) c.at.ensures.unread c.at.ensures.keys
