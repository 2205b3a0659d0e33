-- Which vectors agree (words of this project).
use Rattle.std.specs.Prelude.{◌↔◌, ℕ, List, Option, String, IsTrue, MatchOption}
use Rattle.std.specs.declared.alloc.Global.{Global}
use Rattle.serde_json.specs.Data.{Data}
use Rattle.it_vectors.specs.Key.{IsKeyOf}
use Rattle.it_vectors.specs.Line.{IsVector}
use Rattle.it_vectors.specs.Signature.{IsSignatureOf}
use Rattle.it_vectors.specs.declared.vector.Tried.{Tried}
use Rattle.it_vectors.specs.declared.vector.Tried.TheVariants.{KeyAlone, Signature}
use Rattle.it_vectors.specs.declared.vector.Vector.{Vector}
use Rattle.it_vectors.specs.declared.kind.Kind.{Kind}

-- what is tried holds: the bytes are a public key of the kind, or also its signature of the message
abbrev pub Holds : Kind → List ℕ → Tried → Type 0
Holds kind key KeyAlone = IsKeyOf kind key
Holds kind key (Signature signed) = IsSignatureOf kind key signed.message signed.signature

-- what is tried holds exactly where the vector wants it
abbrev pub Agrees : Vector → Type 0
Agrees vector = IsTrue vector.wanted ↔ Holds vector.kind vector.key vector.tried

-- how a document differs: it is a vector, and there is no difference exactly where that agrees
pub record IsDifference (document : Data) (difference : Option (String Global)) : Type 0 where
  pub vector : Vector
  pub is_vector : IsVector document vector
  pub none_where : MatchOption difference (Agrees vector) (λ _. ¬ Agrees vector)
