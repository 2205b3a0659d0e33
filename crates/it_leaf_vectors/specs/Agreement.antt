-- Which vectors agree (words of this project).
use Rattle.std.specs.Prelude.{◌↔◌, List, ◌∷◌, Option, String, IsTrue, MatchOption}
use Rattle.std.specs.declared.alloc.Global.{Global}
use Rattle.serde_json.specs.Data.{Data}
use Rattle.it_certificate.specs.Certificate.{CertificateOf, Facts}
use Rattle.it_issued.specs.Issued.{IsIssued, IsUsable}
use Rattle.it_issued.specs.Logged.{IsLogged}
use Rattle.it_leaf_vectors.specs.Vector.{IsVector}
use Rattle.it_leaf_vectors.specs.declared.vector.Vector.{Vector}

-- the authority of a vector can be used, and issued its leaf
pub record Issues (v : Vector) : Type 0 where
  pub certificates : List Facts
  pub leaf : Facts
  pub usable : IsUsable v.authority certificates
  pub leaf_is : CertificateOf v.leaf leaf
  pub issued : IsIssued certificates v.authority.window leaf v.wanted.moment

-- it can be used, and one of the logs promised it to log the leaf
pub record Promises (v : Vector) : Type 0 where
  pub issuer : Facts
  pub others : List Facts
  pub leaf : Facts
  pub usable : IsUsable v.authority (issuer ∷ others)
  pub leaf_is : CertificateOf v.leaf leaf
  pub logged : IsLogged v.logs issuer leaf

pub record Agrees (v : Vector) : Type 0 where
  pub issued : IsTrue v.wanted.issued ↔ Issues v
  pub logged : IsTrue v.wanted.logged ↔ Promises v

-- how a document differs: it is a vector, and there is no difference exactly where that agrees
pub record IsDifference (document : Data) (difference : Option (String Global)) : Type 0 where
  pub vector : Vector
  pub is_vector : IsVector document vector
  pub none_where : MatchOption difference (Agrees vector) (λ _. ¬ Agrees vector)
