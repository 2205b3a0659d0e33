use Rattle.std.proofs.Common.{◌≡◌, List, ◌++◌, All}
use Rattle.serde_json.specs.Data.{object}
use Rattle.it_borrowed.specs.NamedMembers.{NamedMember, members_in}
use Rattle.it_member_notes.specs.UnreadMembers.{HasUnread}
use Rattle.it_member_notes.proofs.unread.unread_among.Given as goal

-- what was looked through so far, and what is left
abbrev pub invariant-loop-name : goal.invariant-loop-name
invariant-loop-name l =
    (done : List NamedMember) × (l.fn.members.entries ≡ done ++ l.name-iterator)
    × All (λ note. HasUnread (object (members_in l.fn.members.entries)) note
    × (note.place ≡ l.place)) l.notes.items
