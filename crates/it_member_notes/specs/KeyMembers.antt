-- What the notes on members of key objects say (key objects are in in-toto 1.0 section 4.2; that
-- there are notes, and which, is a word of this project).
use Rattle.std.specs.Prelude.{◌≡◌, ℕ, List, [], Some, codes}
use Rattle.serde_json.specs.Data.{Data}
use Rattle.it_base.specs.Document.{OfDocument}
use Rattle.it_base.specs.Parts.{IsPart}
use Rattle.it_base.specs.Text.{IsText}
use Rattle.it_findings.specs.KeyPlaces.{id_of}
use Rattle.it_member_notes.specs.Places.{IsOfLayout, IsOfPolicy, object_at}
use Rattle.it_member_notes.specs.declared.key_member_note.KeyMemberNote.{KeyMemberNote}
use Rattle.it_member_notes.specs.declared.key_member_note.KeyMemberNote.TheVariants.{OtherKeyId}
use Rattle.it_member_notes.specs.declared.key_member_note.KeyMemberNote.TheVariants.{PrivateKey}
use Rattle.it_findings.specs.declared.place.Place.{Place}
use Rattle.it_findings.specs.declared.place.Place.TheVariants.{Key, KeyValue}

-- the place of the object that has the member
abbrev pub place_of : KeyMemberNote → Place
place_of (OtherKeyId key keyid) = Key key
place_of (PrivateKey key) = KeyValue key

-- the keyid of a key object is this text, and not the id under which the object stands
pub record HasOtherKeyId (object : Data) (id keyid : List ℕ) : Type 0 where
  pub is_keyid : IsPart IsText (codes "keyid") object keyid
  pub is_other : ¬ (keyid ≡ id)

-- the private part of a `keyval` is a text that is not empty
pub record HasPrivateKey (keyval : Data) : Type 0 where
  pub text : List ℕ
  pub is_private : IsPart IsText (codes "private") keyval text
  pub not_empty : ¬ (text ≡ [])

-- the note is true of the object that has the member
abbrev pub HasKeyMember : Data → KeyMemberNote → Type 0
HasKeyMember d (OtherKeyId key keyid) = HasOtherKeyId d (id_of key) keyid
HasKeyMember d (PrivateKey key) = HasPrivateKey d

-- at the note's place in a document is an object of which the note is true
pub record IsKeyMember (d : Data) (note : KeyMemberNote) : Type 0 where
  pub object : Data
  pub stands : object_at (place_of note) d ≡ Some object
  pub has : HasKeyMember object note

-- the bytes are a document of which the note is true, at a place of a policy
abbrev pub IsKeyMemberOfPolicy : List ℕ → KeyMemberNote → Type 0
IsKeyMemberOfPolicy bytes note = IsOfPolicy (place_of note) × OfDocument IsKeyMember bytes note

-- the same at a place of a layout
abbrev pub IsKeyMemberOfLayout : List ℕ → KeyMemberNote → Type 0
IsKeyMemberOfLayout bytes note = IsOfLayout (place_of note) × OfDocument IsKeyMember bytes note
