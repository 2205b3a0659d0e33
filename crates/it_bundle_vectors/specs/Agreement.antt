-- Which vectors agree (words of this project).
use Rattle.std.specs.Prelude.{◌≡◌, ◌↔◌, Option, String, IsTrue, MatchOption}
use Rattle.std.specs.declared.alloc.Global.{Global}
use Rattle.serde_json.specs.Data.{Data}
use Rattle.it_bundle.specs.Bundle.{BundleOf}
use Rattle.it_bundle.specs.declared.bundle.SigstoreBundle.{SigstoreBundle}
use Rattle.it_identity.specs.declared.identity.Identity.{Identity}
use Rattle.it_trust_root.specs.Root.{RootOf}
use Rattle.it_trust_root.specs.declared.root.TrustedRoot.{TrustedRoot}
use Rattle.it_vouches.specs.Vouches.{Vouches}
use Rattle.it_bundle_vectors.specs.Vector.{IsVector}
use Rattle.it_bundle_vectors.specs.declared.vector.Vector.{Vector}

-- the line of a vector is a bundle, which vouches for its identity by its trusted root
pub record IsVouchedFor (v : Vector) : Type 0 where
  pub root : TrustedRoot
  pub bundle : SigstoreBundle
  pub identity : Identity
  pub root_is : RootOf v.root root
  pub bundle_is : BundleOf v.line bundle
  pub name_is : identity.name ≡ v.identity
  pub issuer_is : identity.issuer ≡ v.issuer
  pub vouches : Vouches root bundle identity

abbrev pub Agrees : Vector → Type 0
Agrees v = IsTrue v.vouches ↔ IsVouchedFor v

-- how a document differs: it is a vector, and there is no difference exactly where that agrees
pub record IsDifference (document : Data) (difference : Option (String Global)) : Type 0 where
  pub vector : Vector
  pub is_vector : IsVector document vector
  pub none_where : MatchOption difference (Agrees vector) (λ _. ¬ Agrees vector)
