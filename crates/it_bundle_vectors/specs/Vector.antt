-- Which vector a document is (a format of this project).
use Rattle.std.specs.Prelude.{codes}
use Rattle.serde_json.specs.Data.{Data}
use Rattle.it_base.specs.Parts.{IsPart}
use Rattle.it_base.specs.Text.{IsText}
use Rattle.it_tables.specs.Part.{IsBoolean}
use Rattle.it_bundle_vectors.specs.declared.vector.Vector.{Vector}

-- the vector that a document is
pub record IsVector (d : Data) (vector : Vector) : Type 0 where
  pub name : IsPart IsText (codes "name") d vector.name
  pub root : IsPart IsText (codes "root") d vector.root
  pub line : IsPart IsText (codes "line") d vector.line
  pub identity : IsPart IsText (codes "identity") d vector.identity
  pub issuer : IsPart IsText (codes "issuer") d vector.issuer
  pub vouches : IsPart IsBoolean (codes "vouches") d vector.vouches
