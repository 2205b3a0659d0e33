-- Which vector a document is (a format of this project).
use Rattle.std.specs.Prelude.{ℕ, List, codes}
use Rattle.serde_json.specs.Data.{Data}
use Rattle.it_base.specs.Document.{OfDocument}
use Rattle.it_base.specs.HexadecimalText.{IsHexadecimal}
use Rattle.it_base.specs.Parts.{IsPart}
use Rattle.it_base.specs.Sequence.{IsList}
use Rattle.it_base.specs.Text.{IsText}
use Rattle.it_tables.specs.Part.{IsBoolean, IsNumber}
use Rattle.it_trust_root.specs.Authority.{IsAuthority}
use Rattle.it_trust_root.specs.Log.{IsRootLog}
use Rattle.it_leaf_vectors.specs.declared.vector.Vector.{Vector}
use Rattle.it_leaf_vectors.specs.declared.vector.Wanted.{Wanted}

-- the member of this name is the text of a document that is this value
abbrev pub IsTextPart : {X : Type 0} → (Data → X → Type 0) → List ℕ → Data → X → Type 0
IsTextPart P name d x = (text : List ℕ) × IsPart IsText name d text × OfDocument P text x

-- what is wanted, and when
pub record Wants (d : Data) (wanted : Wanted) : Type 0 where
  pub moment : IsPart IsNumber (codes "moment") d wanted.moment
  pub issued : IsPart IsBoolean (codes "issued") d wanted.issued
  pub logged : IsPart IsBoolean (codes "logged") d wanted.logged

-- the vector that a document is
pub record IsVector (d : Data) (vector : Vector) : Type 0 where
  pub name : IsPart IsText (codes "name") d vector.name
  pub authority : IsTextPart IsAuthority (codes "authority") d vector.authority
  pub logs : IsTextPart (IsList IsRootLog) (codes "logs") d vector.logs
  pub leaf : IsPart IsHexadecimal (codes "leaf") d vector.leaf
  pub wanted : Wants d vector.wanted
