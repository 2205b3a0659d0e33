use Rattle.std.proofs.Common.{All, Contains}
use Rattle.it_borrowed.specs.Tree.{as_data}
use Rattle.it_member_notes.specs.KeyMembers.{IsKeyMember, place_of}
use Rattle.it_member_notes.specs.UnreadMembers.{IsUnread}
use Rattle.it_member_notes.proofs.member_notes.MemberNotes.at.Given as goal

abbrev pub invariant-loop-place : goal.invariant-loop-place
invariant-loop-place l = record {
  of_unread : All (λ note. IsUnread (as_data l.document) note × Contains l.places note.place)
      l.unread.items;
  of_keys : All (λ note. IsKeyMember (as_data l.document) note × Contains l.places (place_of note))
      l.keys.items;
}
