-- Which condition bytes miss that are no leaf: the first that they do not meet, in an order that is
-- this profile's choice.
use Rattle.std.specs.Prelude.{◌≡◌, ◌≢◌, ◌⊎◌, ℕ, List}
use Rattle.it_certificate.specs.Certificate.{Facts, CertificateOf}
use Rattle.it_certificate.specs.CertificateMissed.{BytesMiss}
use Rattle.it_certificate.specs.Leaf.{HasName, IsForCode, IsNoAuthority, LeafOf, NamesIssuer}
use Rattle.it_certificate.specs.Leaf.{Signs, SignsCode}
use Rattle.it_certificate.specs.declared.leaf_shortfall.LeafShortfall.{LeafShortfall}
use Rattle.it_certificate.specs.declared.leaf_shortfall.LeafShortfall.TheVariants as shortfalls
use Rattle.it_certificate.specs.declared.shortfall.CertificateShortfall.{CertificateShortfall}
use Rattle.it_certificate.specs.declared.subject_key.Curve.TheVariants.{P256}

-- the bytes are no leaf
abbrev pub IsNoLeaf : List ℕ → Type 0
IsNoLeaf bytes = (f : Facts) (name issuer : List ℕ) → ¬ LeafOf bytes f name issuer

-- a certificate misses this condition, and none before
abbrev pub CertificateMisses : Facts → LeafShortfall → Type 0
CertificateMisses f (shortfalls.Certificate missed) = ⊥
CertificateMisses f shortfalls.Key = f.curve ≢ P256
CertificateMisses f shortfalls.Usage = (f.curve ≡ P256) × ¬ Signs f
CertificateMisses f shortfalls.Purpose = (f.curve ≡ P256) × Signs f × ¬ IsForCode f
CertificateMisses f shortfalls.Authority =
    (f.curve ≡ P256) × Signs f × IsForCode f × ¬ IsNoAuthority f.known.constraints
CertificateMisses f shortfalls.Name = SignsCode f × ((name : List ℕ) → ¬ HasName f name)
CertificateMisses f shortfalls.Issuer =
    SignsCode f × ((name : List ℕ) × HasName f name) × ((issuer : List ℕ) → ¬ NamesIssuer f issuer)

-- bytes miss this condition: they are no certificate, for this reason, or one that misses it
abbrev pub LeafMisses : List ℕ → LeafShortfall → Type 0
LeafMisses bytes missed =
    ((part : CertificateShortfall) × (missed ≡ shortfalls.Certificate part) × BytesMiss bytes part)
    ⊎ ((f : Facts) × CertificateOf bytes f × CertificateMisses f missed)
