use Rattle.std.proofs.Common.{Contains}
use Rattle.std.proofs.lemmas.List.Elements.{All-append}
use Rattle.it_base.proofs.Elements.{contains_at, kept_all}
use Rattle.it_borrowed.specs.Tree.{as_data}
use Rattle.it_member_notes.specs.KeyMembers.{IsKeyMember, place_of}
use Rattle.it_member_notes.specs.UnreadMembers.{IsUnread}
use Rattle.it_member_notes.specs.declared.key_member_note.KeyMemberNote.{KeyMemberNote}
use Rattle.it_member_notes.specs.declared.unread_member.UnreadMember.{UnreadMember}
use Rattle.it_member_notes.proofs.Placed.{key_stands, unread_stands}
use Rattle.it_member_notes.proofs.member_notes.MemberNotes.at.Goals as goal
use Rattle.it_member_notes.proofs.member_notes.MemberNotes.at.Goals.{
  in-Some+in_ok-found+in_ok-append+in_ok-key_note_of+in_ok-push_some,
  in_default,
}

pub loop-place-preserved : goal.loop-place-preserved
loop-place-preserved c =
    let d = as_data c.args.document.now in
    let places = c.args.places.now in
    let place = c.place-item.result in
    let stands = contains_at places c.loop-place.place-index place c.loop-place-test.true
    c.place-item.is in
    elim c.match-object_at.branch [
      | in-Some+in_ok-found+in_ok-append+in_ok-key_note_of+in_ok-push_some w ↦
          let at = rw w.in-Some.is at c.object_at.ensures in
          rw (w.unread-is, w.keys-is, w.in_ok-append.ensures.items, w.in_ok-push_some.ensures)
          (record {
            of_unread = All-append (λ (n : UnreadMember). IsUnread d n × Contains places n.place) _ _
                c.loop-place.invariant.of_unread
                (unread_stands d places place _ stands at _ w.in_ok-found.ensures);
            of_keys = kept_all (λ (n : KeyMemberNote). IsKeyMember d n × Contains places (place_of n))
                _ _ c.loop-place.invariant.of_keys
                (key_stands d places place _ stands at _ w.in_ok-key_note_of.ensures);
          })
      | in_default w ↦ rw (w.unread-is, w.keys-is) c.loop-place.invariant
    ]
