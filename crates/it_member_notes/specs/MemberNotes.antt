-- What the notes on the members of a policy or a layout say (a word of this project).
use Rattle.std.specs.Prelude.{ℕ, List, All}
use Rattle.it_member_notes.specs.KeyMembers.{IsKeyMemberOfLayout, IsKeyMemberOfPolicy}
use Rattle.it_member_notes.specs.UnreadMembers.{IsUnreadOfLayout, IsUnreadOfPolicy}
use Rattle.it_member_notes.specs.declared.member_notes.MemberNotes.{MemberNotes}

-- each note is true of the policy in the bytes
pub record TellsPolicyMembers (bytes : List ℕ) (notes : MemberNotes) : Type 0 where
  pub unread : All (IsUnreadOfPolicy bytes) notes.unread.items
  pub keys : All (IsKeyMemberOfPolicy bytes) notes.keys.items

-- each note is true of the layout in the bytes
pub record TellsLayoutMembers (bytes : List ℕ) (notes : MemberNotes) : Type 0 where
  pub unread : All (IsUnreadOfLayout bytes) notes.unread.items
  pub keys : All (IsKeyMemberOfLayout bytes) notes.keys.items
