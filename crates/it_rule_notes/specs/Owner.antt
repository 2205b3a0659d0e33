-- What a note says about an owner of a policy (in-toto 1.0 section 5.2; who the owners are is this
-- profile's choice).
use Rattle.std.specs.FinMap.{get}
use Rattle.std.specs.Prelude.{◌≡◌, ◌++◌, ℕ, List, Some, codes}
use Rattle.it_base.specs.Table.{Named}
use Rattle.it_dsse.specs.Panel.{Panel}
use Rattle.it_dsse.specs.Signed.{IsSigner}
use Rattle.it_dsse.specs.declared.envelope.Envelope.{Envelope}
use Rattle.it_dsse.specs.declared.key_object.KeyObject.{KeyObject}
use Rattle.it_hints.specs.SignedAs.{IsSignedAs}
use Rattle.it_rule_notes.specs.Line.{told_form}
use Rattle.it_rule_notes.specs.declared.owner_note.OwnerNote.{OwnerNote}
use Rattle.it_rule_notes.specs.declared.owner_note.OwnerNote.TheVariants.{Signed, SignedAs}
use Rattle.it_rule_notes.specs.declared.owner_note.OwnerNote.TheVariants.{Unsigned}

module _ (panel : Panel) (envelope : Envelope) (owners : Named KeyObject) where
  -- the key of the owner with this id signed the envelope
  pub record HasSigned (id : List ℕ) : Type 0 where
    pub object : KeyObject
    pub is_owner : get owners id ≡ Some object
    pub is_signer : IsSigner panel envelope object id

  -- the key of the owner with this id did not sign the envelope
  pub record HasNotSigned (id : List ℕ) : Type 0 where
    pub object : KeyObject
    pub is_owner : get owners id ≡ Some object
    pub is_no_signer : ¬ IsSigner panel envelope object id

  -- the key of the owner with this id did not sign the envelope for it, but a signature that is
  -- tried for this key id is by that key
  pub record HasSignedAs (id keyid : List ℕ) : Type 0 where
    pub object : KeyObject
    pub is_owner : get owners id ≡ Some object
    pub is_no_signer : ¬ IsSigner panel envelope object id
    pub signed_as : IsSignedAs panel envelope id object keyid

  -- the sentence of a note on an owner
  abbrev pub TellsOwner : OwnerNote → Type 0
  TellsOwner (Signed id) = HasSigned id
  TellsOwner (Unsigned id) = HasNotSigned id
  TellsOwner (SignedAs id keyid) = HasSignedAs id keyid

-- the note is about this owner, an id with its key object, and says whether that key signed
abbrev pub IsOnOwner : Panel → Envelope → List ℕ × KeyObject → OwnerNote → Type 0
IsOnOwner panel envelope owner (Signed id) =
    (id ≡ owner.0) × IsSigner panel envelope owner.1 owner.0
IsOnOwner panel envelope owner (Unsigned id) =
    (id ≡ owner.0) × ¬ IsSigner panel envelope owner.1 owner.0
IsOnOwner panel envelope owner (SignedAs id keyid) =
    (id ≡ owner.0) × (¬ IsSigner panel envelope owner.1 owner.0)
    × IsSignedAs panel envelope owner.0 owner.1 keyid

-- the line of a note on a key that signed under another key id (this project's words)
unfoldable pub signed_as_line : List ℕ → List ℕ → List ℕ
signed_as_line id keyid =
    told_form (codes "layout: the key of owner ") id (codes " signed the layout, ")
    ++ told_form (codes "but under the keyid ") keyid (codes "\n")

-- the line of a note (this project's words)
abbrev pub owner_line : OwnerNote → List ℕ
owner_line (Signed id) = told_form (codes "layout: owner ") id (codes " signed the layout\n")
owner_line (Unsigned id) =
    told_form (codes "layout: owner ") id (codes " did not sign the layout\n")
owner_line (SignedAs id keyid) = signed_as_line id keyid
