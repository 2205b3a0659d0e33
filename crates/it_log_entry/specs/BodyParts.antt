-- The parts of the body of an entry that say what the entry is about.
use Rattle.std.specs.Prelude.{◌≡◌, ◌⊎◌, ℕ, List, Option, Some, None, codes}
use Rattle.serde_json.specs.Data.{Data}
use Rattle.it_base.specs.Document.{OfDocument, member_at}
use Rattle.it_base.specs.Parts.{IsPart}
use Rattle.it_base.specs.Text.{IsText}
use Rattle.it_log_entry.specs.Agreement.{IsOfKind}
use Rattle.it_log_entry.specs.OnlyItem.{IsOnlyItem}
use Rattle.it_log_entry.specs.declared.kind.EntryKind.{EntryKind}

-- the hash of the payload, the envelope, which bodies of kind `intoto` alone have, and the only
-- signature with its certificate
pub record Parts : Type 0 where
  pub hash : Data
  pub envelope : Option Data
  pub signature : Data

-- the parts of the `spec` of a body of kind `dsse`, version 0.0.1
pub record AreDsseParts (d : Data) (parts : Parts) : Type 0 where
  pub hash_is : member_at (codes "payloadHash") d ≡ Some parts.hash
  pub envelope_is : parts.envelope ≡ None
  pub signature_is : IsOnlyItem (codes "signatures") d parts.signature

-- the parts of the `spec` of a body of kind `intoto`, version 0.0.2
pub record AreIntotoParts (d : Data) (parts : Parts) : Type 0 where
  pub content : Data
  pub envelope : Data
  pub content_is : member_at (codes "content") d ≡ Some content
  pub found_is : member_at (codes "envelope") content ≡ Some envelope
  pub envelope_is : parts.envelope ≡ Some envelope
  pub hash_is : member_at (codes "payloadHash") content ≡ Some parts.hash
  pub signature_is : IsOnlyItem (codes "signatures") envelope parts.signature

-- the parts of a `spec`, by one of these kinds
abbrev pub ArePartsOf : EntryKind → Data → Parts → Type 0
ArePartsOf kind d parts = (IsOfKind kind (codes "dsse") (codes "0.0.1") × AreDsseParts d parts)
    ⊎ (IsOfKind kind (codes "intoto") (codes "0.0.2") × AreIntotoParts d parts)

-- the document is a body of this kind, with these parts
pub record HasParts (kind : EntryKind) (d : Data) (parts : Parts) : Type 0 where
  pub kind_is : IsPart IsText (codes "kind") d kind.kind
  pub version_is : IsPart IsText (codes "apiVersion") d kind.version
  pub parts_are : IsPart (ArePartsOf kind) (codes "spec") d parts

-- the bytes are such a body
abbrev pub BodyParts : EntryKind → List ℕ → Parts → Type 0
BodyParts kind = OfDocument (HasParts kind)
