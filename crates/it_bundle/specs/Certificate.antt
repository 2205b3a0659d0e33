-- The certificate of who signed a bundle (Sigstore's `VerificationMaterial`).
use Rattle.std.specs.Prelude.{◌≡◌, ℕ, List, Option, Some, None}
use Rattle.std.specs.Prelude.{option_and_then, codes}
use Rattle.serde_json.specs.Data.{Data}
use Rattle.serde_json.specs.Find.{get_item}
use Rattle.it_base.specs.Base64Text.{IsBase64}
use Rattle.it_base.specs.Document.{member_at}
use Rattle.it_base.specs.List.{items_at}
use Rattle.it_base.specs.Parts.{IsPart}
use Rattle.it_bundle.specs.declared.certificate.BundleCertificate.{BundleCertificate}
use Rattle.it_bundle.specs.declared.certificate.BundleCertificate.TheVariants.{Bytes, Lacks}
use Rattle.it_bundle.specs.declared.certificate.NoCertificate.TheVariants.{PublicKey, Missing}
use Rattle.it_bundle.specs.declared.certificate.NoCertificate.TheVariants.{TwoForms, Chain}
use Rattle.it_bundle.specs.declared.certificate.NoCertificate.TheVariants.{Unreadable}
use Rattle.it_bundle.specs.declared.version.BundleVersion.{BundleVersion}
use Rattle.it_bundle.specs.declared.version.BundleVersion.TheVariants.{V1, V2, V3}

-- the bytes of a certificate (`X509Certificate`)
abbrev pub IsRawBytes : Data → List ℕ → Type 0
IsRawBytes = IsPart IsBase64 (codes "rawBytes")

-- the first certificate of a chain (`X509CertificateChain`)
abbrev pub IsFirstOf : Data → Data → Type 0
IsFirstOf chain first =
    option_and_then (get_item 0) (items_at (codes "certificates") chain) ≡ Some first

-- the bytes of that; those after it are ignored, whatever they are
pub record IsChain (chain : Data) (bytes : List ℕ) : Type 0 where
  pub first : Data
  pub is_first : IsFirstOf chain first
  pub bytes_are : IsRawBytes first bytes

-- the bytes of a certificate, where they read
abbrev pub IsRead : (List ℕ → Type 0) → BundleCertificate → Type 0
IsRead P (Bytes bytes) = P bytes
IsRead P (Lacks reason) = (reason ≡ Unreadable) × ((bytes : List ℕ) → ¬ P bytes)

-- what a chain says: in the third version it must not be there
abbrev pub IsInChain : BundleVersion → Data → BundleCertificate → Type 0
IsInChain V1 chain = IsRead (IsChain chain)
IsInChain V2 chain = IsRead (IsChain chain)
IsInChain V3 chain = λ certificate. certificate ≡ Lacks Chain

-- what the members `publicKey`, `certificate` and `x509CertificateChain` say, of which each may be
-- missing: exactly one of the last two must be there, and the first must not
abbrev pub IsSaid : BundleVersion → Option Data → Option Data → Option Data → BundleCertificate
    → Type 0
IsSaid version (Some key) alone chain certificate = certificate ≡ Lacks PublicKey
IsSaid version None None None certificate = certificate ≡ Lacks Missing
IsSaid version None (Some alone) None certificate = IsRead (IsRawBytes alone) certificate
IsSaid version None None (Some chain) certificate = IsInChain version chain certificate
IsSaid version None (Some alone) (Some chain) certificate = certificate ≡ Lacks TwoForms

-- the certificate of who signed, or why there is none (this profile's choice)
abbrev pub IsBundleCertificate : BundleVersion → Data → BundleCertificate → Type 0
IsBundleCertificate version d =
    IsSaid version (member_at (codes "publicKey") d) (member_at (codes "certificate") d)
    (member_at (codes "x509CertificateChain") d)
