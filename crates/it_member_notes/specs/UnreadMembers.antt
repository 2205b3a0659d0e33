-- What a note on a member that is not looked at says (a word of this project).
use Rattle.std.specs.Prelude.{◌≡◌, ℕ, List, Some, IsSome, Contains, option_map}
use Rattle.serde_json.specs.Data.{Data}
use Rattle.serde_json.specs.Find.{get}
use Rattle.it_base.specs.Document.{OfDocument}
use Rattle.it_findings.specs.MeantName.{meant_name}
use Rattle.it_findings.specs.MemberNames.{known_names, read_names}
use Rattle.it_member_notes.specs.Places.{IsOfLayout, IsOfPolicy, object_at}
use Rattle.it_member_notes.specs.declared.unread_member.UnreadMember.{UnreadMember}

-- the object has a member of this name, which has no meaning at this place; the close name is that
-- of the member that may be meant there, if there is one
pub record HasUnread (object : Data) (note : UnreadMember) : Type 0 where
  pub has : IsSome (get note.name object)
  pub not_read : ¬ Contains (read_names note.place) note.name
  pub not_known : ¬ Contains (known_names note.place) note.name
  pub close : option_map (λ near. near.now) note.close ≡ meant_name note.place note.name

-- at the note's place in a document is an object of which the note is true
pub record IsUnread (d : Data) (note : UnreadMember) : Type 0 where
  pub object : Data
  pub stands : object_at note.place d ≡ Some object
  pub unread : HasUnread object note

-- the bytes are a document of which the note is true, at a place of a policy
abbrev pub IsUnreadOfPolicy : List ℕ → UnreadMember → Type 0
IsUnreadOfPolicy bytes note = IsOfPolicy note.place × OfDocument IsUnread bytes note

-- the same at a place of a layout
abbrev pub IsUnreadOfLayout : List ℕ → UnreadMember → Type 0
IsUnreadOfLayout bytes note = IsOfLayout note.place × OfDocument IsUnread bytes note
