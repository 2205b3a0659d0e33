-- The authorities of a trusted root that can be used, as they are read. Nothing here is trusted.
use Rattle.std.specs.Prelude.{◌≡◌, List, All, map}
use Rattle.it_certificate.specs.Certificate.{Facts, facts_of}
use Rattle.it_certificate_log.specs.Bare.{WasRead}
use Rattle.it_issued.specs.Issued.{IsUsable}
use Rattle.it_issued.specs.declared.authority.UsableAuthority.{UsableAuthority}
use Rattle.it_trust_root.specs.declared.authority.Authority.{Authority}
use Rattle.it_vouches.specs.Found.{AreFound}

-- an authority that can be used, as it was read
pub record IsRead (authority : Authority) (usable : UsableAuthority) : Type 0 where
  pub certificates : IsUsable authority (map facts_of usable.certificates.items)
  pub read : All WasRead usable.certificates.items
  pub window : usable.window ≡ authority.window

abbrev pub CannotBeUsed : Authority → Type 0
CannotBeUsed authority = (certificates : List Facts) → ¬ IsUsable authority certificates

-- those that can be used, in their order
abbrev pub AreUsable : List Authority → List UsableAuthority → Type 0
AreUsable = AreFound CannotBeUsed IsRead
