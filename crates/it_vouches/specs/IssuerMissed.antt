-- Which condition a leaf misses that is not attested, by the authorities and the certificate logs
-- of a trusted root.
use Rattle.std.specs.Prelude.{ℕ, ◌+◌, Some, List}
use Rattle.it_certificate.specs.Certificate.{Facts}
use Rattle.it_issued.specs.Issued.{IsIssued, IsUsable}
use Rattle.it_issued.specs.IssueMisses.{IsIssueShortfall, OfIssuer, issue_place}
use Rattle.it_issued.specs.LogMisses.{IsLogShortfall, log_place}
use Rattle.it_issued.specs.declared.shortfall.IssueShortfall.TheVariants.{Name}
use Rattle.it_log.specs.declared.window.Window.{Window}
use Rattle.it_trust_root.specs.declared.authority.Authority.{Authority}
use Rattle.it_trust_root.specs.declared.root.TrustedRoot.{TrustedRoot}
use Rattle.it_trust_root.specs.declared.root_log.RootLog.{RootLog}
use Rattle.it_vouches.specs.Furthest.{IsMissedByOne}
use Rattle.it_vouches.specs.declared.issuer_shortfall.IssuerShortfall.{IssuerShortfall}
use Rattle.it_vouches.specs.declared.issuer_shortfall.IssuerShortfall.TheVariants.{Issue, Log}

-- the order of the conditions: how many come before each
abbrev pub issuer_place : IssuerShortfall → ℕ
issuer_place (Issue missed) = issue_place missed
issuer_place (Log missed) = 5 + log_place missed

-- a leaf misses this condition with an authority of these certificates: that the authority issued
-- it at the moment, in seconds, or, where it did, that a certificate log promised to log it
abbrev pub MissesWith : List RootLog → Facts → ℕ → Window → List Facts → IssuerShortfall → Type 0
MissesWith logs leaf moment window certificates (Issue missed) =
    IsIssueShortfall certificates window leaf moment (Some missed)
MissesWith logs leaf moment window certificates (Log missed) =
    IsIssued certificates window leaf moment
    × OfIssuer (λ issuer. IsLogShortfall logs issuer leaf (Some missed)) certificates

-- the authority can be used, and the leaf misses this condition with it
pub record IsMissedByAuthority (logs : List RootLog) (leaf : Facts) (moment : ℕ)
    (authority : Authority) (missed : IssuerShortfall) : Type 0 where
  pub certificates : List Facts
  pub usable : IsUsable authority certificates
  pub misses : MissesWith logs leaf moment authority.window certificates missed

-- with one of the authorities of a root, or the first condition, that one has its issuer's name
abbrev pub IsMissedByLeaf : TrustedRoot → Facts → ℕ → IssuerShortfall → Type 0
IsMissedByLeaf root leaf moment missed =
    IsMissedByOne (Issue Name) (IsMissedByAuthority root.certificate_logs leaf moment)
    root.authorities missed
