-- The lines of notes on members (this project's words).
use Rattle.std.specs.Prelude.{ℕ, List, [], ◌++◌, Option, Some, None, codes, option_map}
use Rattle.it_findings.specs.KeyPlaces.{id_of}
use Rattle.it_findings.specs.declared.place.KeyPlace.{KeyPlace}
use Rattle.it_member_notes.specs.PlaceWords.{key_form, place_form, quoted, told_form}
use Rattle.it_member_notes.specs.declared.key_member_note.KeyMemberNote.{KeyMemberNote}
use Rattle.it_member_notes.specs.declared.key_member_note.KeyMemberNote.TheVariants.{OtherKeyId}
use Rattle.it_member_notes.specs.declared.key_member_note.KeyMemberNote.TheVariants.{PrivateKey}
use Rattle.it_member_notes.specs.declared.unread_member.UnreadMember.{UnreadMember}

-- what is said of a key object with another keyid, and of one with a private key
abbrev pub other_key_id_form : KeyPlace → List ℕ → List ℕ
other_key_id_form key keyid =
    told_form (codes " has the keyid ") keyid
    (codes ", which is not looked at: the id that counts is ") ++ quoted (id_of key) ++ codes "\n"

abbrev pub private_key_form : List ℕ
private_key_form =
    codes ".keyval has a member \"private\" that is not empty: "
    ++ codes "a private key does not belong there, "
    ++ codes "since whoever reads it can sign with it\n"

-- the line of a note on a key object
abbrev pub key_member_line : KeyMemberNote → List ℕ
key_member_line (OtherKeyId key keyid) = key_form key ++ other_key_id_form key keyid
key_member_line (PrivateKey key) = key_form key ++ private_key_form

-- the name of the member that may be meant, if there is one
abbrev pub close_form : Option (List ℕ) → List ℕ
close_form None = []
close_form (Some near) = told_form (codes "; did you mean ") near (codes "?")

-- the line of a note on a member that is not looked at
abbrev pub unread_line : UnreadMember → List ℕ
unread_line note =
    place_form note.place
    ++ told_form (codes " has a member ") note.name (codes " that is not looked at")
    ++ close_form (option_map (λ near. near.now) note.close) ++ codes "\n"
