-- Notes on the members of the object at a place of a document.
use Rattle.std.proofs.Common.{◌≡◌, ℕ, List, All, Contains, Err, IfOk, IfSome, Ok, Option, None, Result}
use Rattle.std.proofs.Common.{Some, subst, sym}
use Rattle.std.proofs.lemmas.List.Elements.{All-weaker}
use Rattle.serde_json.specs.Data.{Data}
use Rattle.it_base.specs.Document.{IsDocument, OfDocument}
use Rattle.it_member_notes.specs.KeyMembers.{HasKeyMember, IsKeyMember, place_of}
use Rattle.it_member_notes.specs.Places.{object_at}
use Rattle.it_member_notes.specs.UnreadMembers.{HasUnread, IsUnread}
use Rattle.it_findings.specs.declared.place.Place.{Place}
use Rattle.it_member_notes.specs.declared.key_member_note.KeyMemberNote.{KeyMemberNote}
use Rattle.it_member_notes.specs.declared.unread_member.UnreadMember.{UnreadMember}

module _ (document : Data) (places : List Place) (place : Place) (object : Data)
    (stands : Contains places place) (at : Some object ≡ object_at place document) where
  placed : (other : Place) → other ≡ place → object_at other document ≡ Some object
  placed other same = sym (subst (λ p. Some object ≡ object_at p document) (sym same) at)

  pub unread_stands : (notes : List UnreadMember)
      → All (λ note. HasUnread object note × (note.place ≡ place)) notes
      → All (λ note. IsUnread document note × Contains places note.place) notes
  unread_stands = All-weaker (λ (note : UnreadMember). HasUnread object note × (note.place ≡ place))
      (λ (note : UnreadMember). IsUnread document note × Contains places note.place)
      (λ note h. (
        record { object = object; stands = placed note.place h.1; unread = h.0 },
        subst (Contains places) (sym h.1) stands,
      ))

  pub key_stands : (note : Option KeyMemberNote)
      → IfSome note (λ n. HasKeyMember object n × (place_of n ≡ place))
      → IfSome note (λ n. IsKeyMember document n × Contains places (place_of n))
  key_stands None h = h
  key_stands (Some note) h = (
    record { object = object; stands = placed (place_of note) h.1; has = h.0 },
    subst (Contains places) (sym h.1) stands,
  )

-- what is true of a document at places of a kind is true of its bytes, at a place of that kind
pub true_of_bytes : {N : Type 0} (P : Data → N → Type 0) (Of : Place → Type 0) (at : N → Place)
    (bytes : List ℕ) (document : Data) (places : List Place) → IsDocument bytes document
    → All Of places → (notes : List N)
    → All (λ note. P document note × Contains places (at note)) notes
    → All (λ note. Of (at note) × OfDocument P bytes note) notes
true_of_bytes P Of at bytes document places is all =
    All-weaker (λ note. P document note × Contains places (at note))
    (λ note. Of (at note) × OfDocument P bytes note)
    (λ note h. (subst Of h.1.2 (all h.1.0 (at note) h.1.1), (document, is, h.0)))

pub if_ok_both : {T E : Type 0} (r : Result T E) (A B C : T → Type 0)
    → ((x : T) → A x → B x → C x) → IfOk r A → IfOk r B → IfOk r C
if_ok_both (Ok x) A B C both a b = both x a b
if_ok_both (Err e) A B C both a b = tt
