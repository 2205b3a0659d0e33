-- The authorities of a trusted root, and what they issued (RFC 5280, section 6.1, and this
-- profile's choices). Each has all of its certificates listed, in order, and no others are looked
-- for.
use Rattle.std.specs.Prelude.{ℕ, ◌*◌, pos, List}
use Rattle.std.specs.List.{AllZip}
use Rattle.it_certificate.specs.Authority.{AreAuthority, Issued}
use Rattle.it_certificate.specs.Certificate.{CertificateOf, Facts}
use Rattle.it_issued.specs.Signature.{Signs}
use Rattle.it_log.specs.Window.{LiesIn}
use Rattle.it_log.specs.declared.window.Window.{Window}
use Rattle.it_trust_root.specs.declared.authority.Authority.{Authority}

-- an authority's certificates are these, each signed by the key of the next
pub record IsUsable (authority : Authority) (certificates : List Facts) : Type 0 where
  pub read : AllZip CertificateOf authority.certificates certificates
  pub authority_is : AreAuthority Signs certificates

-- an authority with these certificates issued the leaf: at the moment, in seconds, the authority
-- was trusted, and the leaf and each of the certificates was valid
pub record IsIssued (certificates : List Facts) (window : Window) (leaf : Facts) (moment : ℕ)
    : Type 0 where
  pub issued : Issued Signs certificates leaf (pos moment)
  pub trusted : LiesIn window (pos (1_000_000_000 * moment))
