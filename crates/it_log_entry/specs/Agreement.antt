-- What the body of an entry is about.
use Rattle.std.specs.Prelude.{◌≡◌, ◌⊎◌, ℕ, List, codes}
use Rattle.serde_json.specs.Data.{Data}
use Rattle.it_base.specs.Document.{OfDocument}
use Rattle.it_base.specs.Parts.{IsPart}
use Rattle.it_base.specs.Text.{IsText}
use Rattle.it_log_entry.specs.DsseBody.{IsDsseBody}
use Rattle.it_log_entry.specs.IntotoBody.{IsIntotoBody}
use Rattle.it_log_entry.specs.declared.kind.EntryKind.{EntryKind}
use Rattle.it_log_entry.specs.declared.logged.Logged.{Logged}

-- the kind has this name and version
pub record IsOfKind (kind : EntryKind) (name version : List ℕ) : Type 0 where
  pub kind_is : kind.kind ≡ name
  pub version_is : kind.version ≡ version

-- the kind is one of the two that are read (this profile's choice)
abbrev pub IsReadKind : EntryKind → Type 0
IsReadKind kind = IsOfKind kind (codes "dsse") (codes "0.0.1")
    ⊎ IsOfKind kind (codes "intoto") (codes "0.0.2")

-- the `spec` of a body is about this signature, by one of these kinds
abbrev pub IsSpec : EntryKind → Data → Logged → Type 0
IsSpec kind d logged = (IsOfKind kind (codes "dsse") (codes "0.0.1") × IsDsseBody d logged)
    ⊎ (IsOfKind kind (codes "intoto") (codes "0.0.2") × IsIntotoBody d logged)

-- the document is a body of this kind about this signature
pub record IsBody (kind : EntryKind) (d : Data) (logged : Logged) : Type 0 where
  pub kind_is : IsPart IsText (codes "kind") d kind.kind
  pub version_is : IsPart IsText (codes "apiVersion") d kind.version
  pub spec_is : IsPart (IsSpec kind) (codes "spec") d logged

-- the bytes are such a body
abbrev pub BodyAgrees : EntryKind → List ℕ → Logged → Type 0
BodyAgrees kind = OfDocument (IsBody kind)
