-- Leaves: the certificates of keys that sign artifacts (Fulcio's certificate profile).
use Rattle.std.specs.Prelude.{◌≡◌, ℕ, true, Option, Some, None, ⊤, List, MatchOption}
use Rattle.it_certificate.specs.Certificate.{Facts, CertificateOf}
use Rattle.it_certificate.specs.Identifiers.{subject_name, old_issuer, new_issuer}
use Rattle.it_certificate.specs.Issuer.{IsIssuer}
use Rattle.it_certificate.specs.Name.{IsName}
use Rattle.it_certificate.specs.Values.{value_of}
use Rattle.it_certificate.specs.declared.constraints.Constraints.{Constraints}
use Rattle.it_certificate.specs.declared.constraints.Constraints.TheVariants.{NoAuthority}
use Rattle.it_certificate.specs.declared.constraints.Constraints.TheVariants.{Authority}
use Rattle.it_certificate.specs.declared.subject_key.Curve.TheVariants.{P256}

-- its key usage is for signatures
abbrev pub Signs : Facts → Type 0
Signs f = MatchOption f.known.usage ⊥ (λ u. u.signs ≡ true)

-- code signing is among its purposes
abbrev pub IsForCode : Facts → Type 0
IsForCode f = MatchOption f.known.purposes ⊥ (λ p. p.code_signing ≡ true)

-- a certificate without basic constraints is no authority's
abbrev pub IsNoAuthority : Option Constraints → Type 0
IsNoAuthority None = ⊤
IsNoAuthority (Some NoAuthority) = ⊤
IsNoAuthority (Some (Authority length)) = ⊥

-- the key is one of P-256, for signatures and for code, and not an authority's
pub record SignsCode (f : Facts) : Type 0 where
  pub curve : f.curve ≡ P256
  pub signs : Signs f
  pub for_code : IsForCode f
  pub no_authority : IsNoAuthority f.known.constraints

-- its one name is this
abbrev pub HasName : Facts → List ℕ → Type 0
HasName f name =
    MatchOption (value_of subject_name f.extensions) ⊥ (λ value. IsName value name)

-- it names this issuer
abbrev pub NamesIssuer : Facts → List ℕ → Type 0
NamesIssuer f = IsIssuer (value_of old_issuer f.extensions) (value_of new_issuer f.extensions)

-- the certificate is a leaf, which names this identity
pub record IsLeaf (f : Facts) (name issuer : List ℕ) : Type 0 where
  pub signs_code : SignsCode f
  pub name_is : HasName f name
  pub issuer_is : NamesIssuer f issuer

-- the bytes are this leaf
pub record LeafOf (bytes : List ℕ) (f : Facts) (name issuer : List ℕ) : Type 0 where
  pub certificate : CertificateOf bytes f
  pub leaf : IsLeaf f name issuer
