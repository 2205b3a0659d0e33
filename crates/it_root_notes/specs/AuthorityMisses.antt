-- Which condition an authority misses where it cannot be used (the conditions are those of
-- it_issued; their order is this profile's choice).
use Rattle.std.specs.Prelude.{◌≡◌, ℕ, Option, List, []}
use Rattle.std.specs.List.{AllZip}
use Rattle.it_certificate.specs.Authority.{AreLinked, IsChain, IsSignedBy, MayIssue}
use Rattle.it_certificate.specs.Certificate.{CertificateOf, Facts}
use Rattle.it_certificate.specs.CertificateMissed.{BytesMiss}
use Rattle.it_certificate.specs.IssuingMisses.{IssuingMisses}
use Rattle.it_certificate.specs.declared.issuing.IssuingShortfall.{IssuingShortfall}
use Rattle.it_certificate.specs.declared.shortfall.CertificateShortfall.{CertificateShortfall}
use Rattle.it_issued.specs.Issued.{IsUsable}
use Rattle.it_issued.specs.Misses.{IsShortfall}
use Rattle.it_issued.specs.Signature.{Signs}
use Rattle.it_root_notes.specs.Missing.{MissesFrom, MissesNext}
use Rattle.it_root_notes.specs.declared.shortfall.AuthorityShortfall.{AuthorityShortfall}
use Rattle.it_root_notes.specs.declared.shortfall.AuthorityShortfall.TheVariants.{Unread, Chain}
use Rattle.it_root_notes.specs.declared.shortfall.ChainShortfall.{ChainShortfall}
use Rattle.it_root_notes.specs.declared.shortfall.ChainShortfall.TheVariants.{Empty, OtherIssuer}
use Rattle.it_root_notes.specs.declared.shortfall.ChainShortfall.TheVariants.{MayNotIssue, Unsigned}
use Rattle.it_trust_root.specs.declared.authority.Authority.{Authority}

-- the bytes of a number are a certificate
abbrev pub IsRead : ℕ → List ℕ → Type 0
IsRead number bytes = (facts : Facts) × CertificateOf bytes facts

-- they are none, for this reason
abbrev pub IsUnread : CertificateShortfall → ℕ → List ℕ → Type 0
IsUnread reason number bytes = BytesMiss bytes reason

-- a certificate names the next one as its issuer
abbrev pub Names : Facts → Facts → Type 0
Names f next = f.parts.issuer ≡ next.parts.subject

-- a certificate with so many before it may not issue others, for this reason
abbrev pub IsBarred : IssuingShortfall → ℕ → Facts → Type 0
IsBarred reason number f = IssuingMisses number f reason

-- the certificates miss this condition, and meet those before it
abbrev pub ChainMisses : List Facts → ChainShortfall → Type 0
ChainMisses certificates Empty = certificates ≡ []
ChainMisses certificates (OtherIssuer place) = MissesNext Names certificates place
ChainMisses certificates (MayNotIssue place reason) =
    AreLinked certificates × MissesFrom MayIssue (IsBarred reason) 0 certificates place
ChainMisses certificates (Unsigned place) =
    IsChain certificates × MissesNext (IsSignedBy Signs) certificates place

-- an authority's certificates are read, and miss this condition
pub record ReadMisses (authority : Authority) (missed : ChainShortfall) : Type 0 where
  pub certificates : List Facts
  pub read : AllZip CertificateOf authority.certificates certificates
  pub misses : ChainMisses certificates missed

-- the authority misses this condition, and meets those before it
abbrev pub AuthorityMisses : Authority → AuthorityShortfall → Type 0
AuthorityMisses authority (Unread place reason) =
    MissesFrom IsRead (IsUnread reason) 0 authority.certificates place
AuthorityMisses authority (Chain missed) = ReadMisses authority missed

-- the authority can be used, or cannot, and misses this condition
abbrev pub IsAuthorityShortfall : Authority → Option AuthorityShortfall → Type 0
IsAuthorityShortfall authority =
    IsShortfall ((certificates : List Facts) × IsUsable authority certificates)
    (AuthorityMisses authority)
