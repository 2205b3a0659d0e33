-- Which vector a document is (a format of this project).
use Rattle.std.specs.Prelude.{◌≡◌, Bool, None, codes}
use Rattle.serde_json.specs.Data.{Data}
use Rattle.it_base.specs.Document.{member_at}
use Rattle.it_base.specs.HexadecimalText.{IsHexadecimal}
use Rattle.it_base.specs.Parts.{IsPart}
use Rattle.it_base.specs.Text.{IsText}
use Rattle.it_tables.specs.Part.{IsBoolean}
use Rattle.it_vectors.specs.Kind.{name_of}
use Rattle.it_vectors.specs.declared.kind.Kind.{Kind}
use Rattle.it_vectors.specs.declared.vector.Signed.{Signed}
use Rattle.it_vectors.specs.declared.vector.Tried.{Tried}
use Rattle.it_vectors.specs.declared.vector.Tried.TheVariants.{KeyAlone, Signature}
use Rattle.it_vectors.specs.declared.vector.Vector.{Vector}

-- the part is the name of this kind
abbrev pub IsKind : Data → Kind → Type 0
IsKind d kind = IsText d (name_of kind)

-- a message and what could be its signature
pub record IsSigned (d : Data) (signed : Signed) : Type 0 where
  pub message : IsPart IsHexadecimal (codes "message") d signed.message
  pub signature : IsPart IsHexadecimal (codes "signature") d signed.signature

-- where there is a member `is_key`, the key alone is tried, and `is_key` says what is wanted;
-- otherwise a signature is tried, and the member `valid` says what is wanted
abbrev pub Tries : Data → Tried → Bool → Type 0
Tries d KeyAlone wanted = IsPart IsBoolean (codes "is_key") d wanted
Tries d (Signature signed) wanted = (member_at (codes "is_key") d ≡ None) × IsSigned d signed
    × IsPart IsBoolean (codes "valid") d wanted

-- the vector that a document is
pub record IsVector (d : Data) (vector : Vector) : Type 0 where
  pub name : IsPart IsText (codes "name") d vector.name
  pub kind : IsPart IsKind (codes "kind") d vector.kind
  pub key : IsPart IsHexadecimal (codes "key") d vector.key
  pub tries : Tries d vector.tried vector.wanted
