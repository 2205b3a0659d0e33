-- What the authorities of a trusted root attest, as they are read. Nothing here is trusted.
use Rattle.std.specs.Prelude.{◌≡◌, ℕ, List, ◌∷◌, Any, map}
use Rattle.it_certificate.specs.Certificate.{Facts, facts_of}
use Rattle.it_issued.specs.Issued.{IsIssued}
use Rattle.it_issued.specs.Logged.{IsLogged}
use Rattle.it_issued.specs.declared.authority.UsableAuthority.{UsableAuthority}
use Rattle.it_issued.specs.declared.shortfall.IssueShortfall.TheVariants.{Name}
use Rattle.it_trust_root.specs.declared.root_log.RootLog.{RootLog}
use Rattle.it_vouches.specs.Furthest.{IsFurthest, IsMissedByOne}
use Rattle.it_vouches.specs.IssuerMissed.{MissesWith, issuer_place}
use Rattle.it_vouches.specs.declared.issuer_shortfall.IssuerShortfall.{IssuerShortfall}
use Rattle.it_vouches.specs.declared.issuer_shortfall.IssuerShortfall.TheVariants.{Issue}

-- an authority that can be used issued the leaf at the moment, and was promised that it is logged
pub record IsIssuedBy (logs : List RootLog) (leaf : Facts) (moment : ℕ)
    (authority : UsableAuthority) : Type 0 where
  pub issuer : Facts
  pub others : List Facts
  pub certificates_are : map facts_of authority.certificates.items ≡ issuer ∷ others
  pub issued : IsIssued (issuer ∷ others) authority.window leaf moment
  pub promised : IsLogged logs issuer leaf

-- the leaf misses this condition with it
abbrev pub IsMissedBy : List RootLog → Facts → ℕ → UsableAuthority → IssuerShortfall → Type 0
IsMissedBy logs leaf moment authority missed =
    MissesWith logs leaf moment authority.window (map facts_of authority.certificates.items) missed

-- none of these authorities did, and this is the furthest condition that the leaf misses
pub record IsMissedByEach (logs : List RootLog) (leaf : Facts) (moment : ℕ)
    (authorities : List UsableAuthority) (missed : IssuerShortfall) : Type 0 where
  pub none : ¬ Any (IsIssuedBy logs leaf moment) authorities
  pub furthest : IsFurthest issuer_place
      (IsMissedByOne (Issue Name) (IsMissedBy logs leaf moment) authorities) missed
