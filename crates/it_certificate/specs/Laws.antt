-- What is true of all certificates.
use Rattle.std.specs.Prelude.{◌≡◌, List, ℕ}
use Rattle.it_certificate.specs.Certificate.{CertificateOf, Facts}
use Rattle.it_certificate.specs.CertificateMissed.{BytesMiss}
use Rattle.it_certificate.specs.Extension.{AreExtensions, Stated}
use Rattle.it_certificate.specs.IssuingMisses.{IssuingMisses}
use Rattle.it_certificate.specs.Leaf.{LeafOf}
use Rattle.it_certificate.specs.Parts.{IsCertificate, Parts}
use Rattle.it_certificate.specs.declared.issuing.IssuingShortfall.{IssuingShortfall}
use Rattle.it_certificate.specs.declared.shortfall.CertificateShortfall.{CertificateShortfall}

-- bytes have the parts of a certificate in at most one way
abbrev pub OneCertificate : Type 0
OneCertificate = (bytes : List ℕ) (p q : Parts) (signature other : List ℕ)
    → IsCertificate bytes p signature → IsCertificate bytes q other
    → (p ≡ q) × (signature ≡ other)

-- content is extensions in at most one way
abbrev pub OneList : Type 0
OneList = (content : List ℕ) (extensions others : List Stated)
    → AreExtensions content extensions → AreExtensions content others → extensions ≡ others

-- bytes are a certificate in at most one way
abbrev pub OneWhole : Type 0
OneWhole = (bytes : List ℕ) (f g : Facts) → CertificateOf bytes f → CertificateOf bytes g → f ≡ g

-- bytes are a leaf in at most one way
abbrev pub OneLeaf : Type 0
OneLeaf = (bytes : List ℕ) (f g : Facts) (name issuer name' issuer' : List ℕ)
    → LeafOf bytes f name issuer → LeafOf bytes g name' issuer'
    → (f ≡ g) × (name ≡ name') × (issuer ≡ issuer')

-- bytes miss at most one condition of a certificate
abbrev pub OneShortfall : Type 0
OneShortfall = (bytes : List ℕ) (one other : CertificateShortfall)
    → BytesMiss bytes one → BytesMiss bytes other → one ≡ other

-- bytes that miss one are no certificate
abbrev pub NoCertificate : Type 0
NoCertificate = (bytes : List ℕ) (missed : CertificateShortfall) → BytesMiss bytes missed
    → (f : Facts) → ¬ CertificateOf bytes f

-- a certificate misses at most one condition to issue others
abbrev pub OneIssuingShortfall : Type 0
OneIssuingShortfall = (place : ℕ) (f : Facts) (one other : IssuingShortfall)
    → IssuingMisses place f one → IssuingMisses place f other → one ≡ other
