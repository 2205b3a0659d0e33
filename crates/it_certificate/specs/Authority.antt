-- The certificates of an authority, and what it issued (RFC 5280, section 6.1, and this profile's
-- choices): its certificates stand in order, the one that issues leaves first, and the last one is
-- trusted because it is listed.
use Rattle.std.specs.Prelude.{◌≡◌, ◌≢◌, ℕ, suc, ◌≤◌, ◌||◌, true, Option, Some, None, ⊤}
use Rattle.std.specs.Prelude.{List, [], ◌∷◌, MatchOption, ℤ, ◌≤ℤ◌}
use Rattle.std.specs.List.{AllByRecursion}
use Rattle.it_certificate.specs.Certificate.{Facts}
use Rattle.it_certificate.specs.Parts.{signed_bytes}
use Rattle.it_certificate.specs.declared.algorithm.Algorithm.{Algorithm}
use Rattle.it_certificate.specs.declared.algorithm.Algorithm.TheVariants.{WithSha256, WithSha384}
use Rattle.it_certificate.specs.declared.constraints.Constraints.{Constraints}
use Rattle.it_certificate.specs.declared.constraints.Constraints.TheVariants.{NoAuthority}
use Rattle.it_certificate.specs.declared.constraints.Constraints.TheVariants.{Authority}
use Rattle.it_certificate.specs.declared.subject_key.Curve.{Curve}
use Rattle.it_certificate.specs.declared.subject_key.Curve.TheVariants.{P256, P384}

-- an authority's
abbrev pub IsOfAuthority : Option Constraints → Type 0
IsOfAuthority None = ⊥
IsOfAuthority (Some NoAuthority) = ⊥
IsOfAuthority (Some (Authority length)) = ⊤

-- an authority's, with a path length, if it has one, of at least so many
abbrev pub IsAuthorityOver : ℕ → Option Constraints → Type 0
IsAuthorityOver place None = ⊥
IsAuthorityOver place (Some NoAuthority) = ⊥
IsAuthorityOver place (Some (Authority None)) = ⊤
IsAuthorityOver place (Some (Authority (Some most))) = place ≤ most

-- its key usage is for certificates
abbrev pub SignsCertificates : Facts → Type 0
SignsCertificates f = MatchOption f.known.usage ⊥ (λ u. u.signs_certificates ≡ true)

-- where it has purposes, code signing or any purpose is among them
abbrev pub MayBeForCode : Facts → Type 0
MayBeForCode f = MatchOption f.known.purposes ⊤ (λ p. (p.code_signing || p.any) ≡ true)

-- the certificate may issue others, with so many certificates of the authority before it
pub record MayIssue (place : ℕ) (f : Facts) : Type 0 where
  pub authority : IsAuthorityOver place f.known.constraints
  pub signs : SignsCertificates f
  pub for_code : MayBeForCode f

-- each may, the first with so many before it
abbrev pub MayIssueFrom : ℕ → List Facts → Type 0
MayIssueFrom place [] = ⊤
MayIssueFrom place (f ∷ fs) = MayIssue place f × MayIssueFrom (suc place) fs

-- each names the next as its issuer
abbrev pub AreLinked : List Facts → Type 0
AreLinked [] = ⊤
AreLinked (f ∷ []) = ⊤
AreLinked (f ∷ next ∷ fs) = (f.parts.issuer ≡ next.parts.subject) × AreLinked (next ∷ fs)

-- the certificates of an authority, but for their signatures
pub record IsChain (certificates : List Facts) : Type 0 where
  pub some : certificates ≢ []
  pub may_issue : MayIssueFrom 0 certificates
  pub linked : AreLinked certificates

-- the algorithm of signatures by keys of a curve (this profile's choice)
abbrev pub AreTied : Curve → Algorithm → Type 0
AreTied P256 WithSha256 = ⊤
AreTied P256 WithSha384 = ⊥
AreTied P384 WithSha256 = ⊥
AreTied P384 WithSha384 = ⊤

-- which signatures are those of a key: by its curve and its coordinates, what is signed, and the
-- signature
abbrev pub Signatures : Type 1
Signatures = Curve → List ℕ → List ℕ → List ℕ → Type 0

-- a certificate is signed by the key of another
pub record IsSignedBy (Signs : Signatures) (f issuer : Facts) : Type 0 where
  pub tied : AreTied issuer.curve f.algorithm
  pub signed : Signs issuer.curve issuer.coordinates (signed_bytes f.parts) f.signature

-- each is signed by the key of the next
abbrev pub AreSignedInTurn : Signatures → List Facts → Type 0
AreSignedInTurn Signs [] = ⊤
AreSignedInTurn Signs (f ∷ []) = ⊤
AreSignedInTurn Signs (f ∷ next ∷ fs) = IsSignedBy Signs f next × AreSignedInTurn Signs (next ∷ fs)

-- the certificates of an authority
pub record AreAuthority (Signs : Signatures) (certificates : List Facts) : Type 0 where
  pub chain : IsChain certificates
  pub signed : AreSignedInTurn Signs certificates

-- the moment lies in the certificate's validity
abbrev pub IsValidAt : ℤ → Facts → Type 0
IsValidAt moment f = (f.validity.first.seconds ≤ℤ moment) × (moment ≤ℤ f.validity.last.seconds)

-- the authority issued the certificate, and all were valid at the moment
pub record Issued (Signs : Signatures) (certificates : List Facts) (leaf : Facts) (moment : ℤ)
    : Type 0 where
  pub issuer : Facts
  pub others : List Facts
  pub certificates_are : certificates ≡ issuer ∷ others
  pub named : leaf.parts.issuer ≡ issuer.parts.subject
  pub signed : IsSignedBy Signs leaf issuer
  pub leaf_valid : IsValidAt moment leaf
  pub all_valid : AllByRecursion (IsValidAt moment) certificates
