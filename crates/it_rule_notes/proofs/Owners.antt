-- The owners of a policy, one after another.
use Rattle.std.proofs.Common.{◌≡◌, ◌∙◌, ℕ, List, [], ◌∷◌, All, Contains, Some, ap, sym, subst}
use Rattle.std.specs.FinMap.{entries, get}
use Rattle.std.specs.List.{AllZip}
use Rattle.std.proofs.lemmas.List.Elements.{All-cons, All-contains_itself, All-head, All-nil}
use Rattle.std.proofs.lemmas.List.Elements.{All-tail, All-weaker}
use Rattle.it_base.specs.Table.{Named}
use Rattle.it_chain.proofs.Entries.{entry_known}
use Rattle.it_dsse.specs.Panel.{Panel}
use Rattle.it_dsse.specs.Signed.{IsSigner}
use Rattle.it_dsse.specs.declared.envelope.Envelope.{Envelope}
use Rattle.it_dsse.specs.declared.key_object.KeyObject.{KeyObject}
use Rattle.it_hints.specs.SignedAs.{IsSignedAs}
use Rattle.it_rule_notes.specs.Owner.{IsOnOwner, TellsOwner}
use Rattle.it_rule_notes.specs.declared.owner_note.OwnerNote.{OwnerNote}
use Rattle.it_rule_notes.specs.declared.owner_note.OwnerNote.TheVariants.{Signed, SignedAs}
use Rattle.it_rule_notes.specs.declared.owner_note.OwnerNote.TheVariants.{Unsigned}

-- an owner is known under the id
abbrev IsKnown : Named KeyObject → List ℕ × KeyObject → Type 0
IsKnown owners owner = get owners owner.0 ≡ Some owner.1

all_known : (owners : Named KeyObject) → All (IsKnown owners) (entries owners)
all_known owners =
    All-weaker (λ owner. Contains (entries owners) owner) (IsKnown owners) (entry_known owners)
    (entries owners) (All-contains_itself (entries owners))

module _ (panel : Panel) (envelope : Envelope) (owners : Named KeyObject) where
  one_told : (owner : List ℕ × KeyObject) (note : OwnerNote) → IsKnown owners owner
      → IsOnOwner panel envelope owner note → TellsOwner panel envelope owners note
  one_told owner (Signed id) known is = record {
    object = owner.1;
    is_owner = ap (get owners) is.0 ∙ known;
    is_signer = subst (λ name. IsSigner panel envelope owner.1 name) (sym is.0) is.1;
  }
  one_told owner (Unsigned id) known is = record {
    object = owner.1;
    is_owner = ap (get owners) is.0 ∙ known;
    is_no_signer = subst (λ name. ¬ IsSigner panel envelope owner.1 name) (sym is.0) is.1;
  }
  one_told owner (SignedAs id keyid) known is = record {
    object = owner.1;
    is_owner = ap (get owners) is.0 ∙ known;
    is_no_signer = subst (λ name. ¬ IsSigner panel envelope owner.1 name) (sym is.0) is.1;
    signed_as =
        subst (λ name. IsSignedAs panel envelope name owner.1 keyid) (sym is.0) is.2;
  }

  those_told : (all : List (List ℕ × KeyObject)) (notes : List OwnerNote)
      → All (IsKnown owners) all → AllZip (IsOnOwner panel envelope) all notes
      → All (TellsOwner panel envelope owners) notes
  those_told [] [] known are = All-nil (TellsOwner panel envelope owners)
  those_told [] (note ∷ notes) known are = absurd are
  those_told (owner ∷ all) [] known are = absurd are
  those_told (owner ∷ all) (note ∷ notes) known are =
      All-cons (TellsOwner panel envelope owners) note notes
      (one_told owner note (All-head (IsKnown owners) owner all known) are.0)
      (those_told all notes (All-tail (IsKnown owners) owner all known) are.1)

  -- a note for each owner is true of the owners
  pub each_told : (notes : List OwnerNote)
      → AllZip (IsOnOwner panel envelope) (entries owners) notes
      → All (TellsOwner panel envelope owners) notes
  each_told notes = those_told (entries owners) notes (all_known owners)
