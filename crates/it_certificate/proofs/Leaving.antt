-- Leaves, by their certificates.
use Rattle.std.proofs.Common.{ℕ, List, refl, subst, inl, inr}
use Rattle.it_certificate.specs.Certificate.{CertificateOf, Facts}
use Rattle.it_certificate.specs.CertificateMissed.{BytesMiss}
use Rattle.it_certificate.specs.Leaf.{IsLeaf}
use Rattle.it_certificate.specs.LeafMisses.{CertificateMisses, IsNoLeaf, LeafMisses}
use Rattle.it_certificate.specs.declared.leaf_shortfall.LeafShortfall.{LeafShortfall}
use Rattle.it_certificate.specs.declared.leaf_shortfall.LeafShortfall.TheVariants as shortfalls
use Rattle.it_certificate.specs.declared.shortfall.CertificateShortfall.{CertificateShortfall}
use Rattle.it_certificate.proofs.OneFacts.{one_facts}
use Rattle.it_certificate.proofs.Short.{no_certificate}

-- a certificate that misses a condition is no leaf
misses_leaf : (f : Facts) (missed : LeafShortfall) → CertificateMisses f missed → (name issuer : List ℕ) → IsLeaf f name issuer → ⊥
misses_leaf f (shortfalls.Certificate missed) m name issuer is = m
misses_leaf f shortfalls.Key m name issuer is = m is.signs_code.curve
misses_leaf f shortfalls.Usage m name issuer is = m.1 is.signs_code.signs
misses_leaf f shortfalls.Purpose m name issuer is = m.2 is.signs_code.for_code
misses_leaf f shortfalls.Authority m name issuer is = m.3 is.signs_code.no_authority
misses_leaf f shortfalls.Name m name issuer is = m.1 name is.name_is
misses_leaf f shortfalls.Issuer m name issuer is = m.2 issuer is.issuer_is

pub no_leaf : (bytes : List ℕ) (read : Facts) (missed : LeafShortfall) → CertificateOf bytes read → CertificateMisses read missed
    → IsNoLeaf bytes × LeafMisses bytes missed
no_leaf bytes read missed is m = (
  λ f name issuer leaf.
      misses_leaf read missed m name issuer
      (subst (λ (g : Facts). IsLeaf g name issuer) (one_facts bytes f read leaf.certificate is) leaf.leaf),
  inr (read, is, m),
)

-- bytes that are no certificate
pub missed_certificate : (bytes : List ℕ) (missed : CertificateShortfall) → BytesMiss bytes missed
    → IsNoLeaf bytes × LeafMisses bytes (shortfalls.Certificate missed)
missed_certificate bytes missed m =
    (λ f name issuer leaf. no_certificate bytes missed m f leaf.certificate, inl (missed, refl, m))
