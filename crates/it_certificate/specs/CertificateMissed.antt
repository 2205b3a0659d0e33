-- Which condition bytes miss that are no certificate: the first that they do not meet, in an order
-- that is this profile's choice.
use Rattle.std.specs.Prelude.{◌≡◌, ◌≢◌, ℕ, List, None, false, true, map}
use Rattle.std.specs.List.{IsDistinct, list_all}
use Rattle.std.specs.Str.{bytes_eq}
use Rattle.it_certificate.specs.Algorithm.{algorithm_content}
use Rattle.it_certificate.specs.Extension.{Stated, AreExtensions}
use Rattle.it_certificate.specs.Identifiers.{name_constraints}
use Rattle.it_certificate.specs.Known.{AreKnown}
use Rattle.it_certificate.specs.Parts.{Parts, IsCertificate}
use Rattle.it_certificate.specs.Permitted.{ArePermitted, is_known_if_critical}
use Rattle.it_certificate.specs.SubjectKey.{IsKeyContent}
use Rattle.it_certificate.specs.Validity.{IsValidity}
use Rattle.it_certificate.specs.Values.{value_of}
use Rattle.it_certificate.specs.declared.algorithm.Algorithm.{Algorithm}
use Rattle.it_certificate.specs.declared.shortfall.CertificateShortfall.{CertificateShortfall}
use Rattle.it_certificate.specs.declared.shortfall.CertificateShortfall.TheVariants as short
use Rattle.it_certificate.specs.declared.shortfall.ExtensionsShortfall.{ExtensionsShortfall}
use Rattle.it_certificate.specs.declared.shortfall.ExtensionsShortfall.TheVariants as listed
use Rattle.it_certificate.specs.declared.known.Known.{Known}
use Rattle.it_certificate.specs.declared.subject_key.Curve.{Curve}
use Rattle.it_certificate.specs.declared.validity.Validity.{Validity}

-- extensions miss this condition, and none before
abbrev pub ListedMiss : List Stated → ExtensionsShortfall → Type 0
ListedMiss extensions listed.Form = ⊥
ListedMiss extensions listed.NameConstraints = value_of name_constraints extensions ≢ None
ListedMiss extensions listed.Critical =
    (value_of name_constraints extensions ≡ None)
    × (list_all is_known_if_critical extensions ≡ false)
ListedMiss extensions listed.Twice =
    (value_of name_constraints extensions ≡ None)
    × (list_all is_known_if_critical extensions ≡ true)
    × ¬ IsDistinct bytes_eq (map (λ e. e.id) extensions)
ListedMiss extensions listed.Values =
    ArePermitted extensions × ((known : Known) → ¬ AreKnown extensions known)

-- the part of a certificate that has its extensions misses this condition, and none before
abbrev pub ExtensionsMiss : List ℕ → ExtensionsShortfall → Type 0
ExtensionsMiss content listed.Form =
    (extensions : List Stated) → ¬ AreExtensions content extensions
ExtensionsMiss content missed =
    (extensions : List Stated) × AreExtensions content extensions × ListedMiss extensions missed

-- the part of the algorithm, of the validity, of the key reads
abbrev pub HasAlgorithm : Parts → Type 0
HasAlgorithm parts =
    (algorithm : Algorithm) × (parts.algorithm ≡ algorithm_content algorithm)

abbrev pub HasValidity : Parts → Type 0
HasValidity parts = (validity : Validity) × IsValidity parts.validity validity

abbrev pub HasKey : Parts → Type 0
HasKey parts =
    (curve : Curve) × (coordinates : List ℕ) × IsKeyContent parts.key curve coordinates

-- the parts of a certificate miss this condition, and none before
abbrev pub PartsMiss : Parts → CertificateShortfall → Type 0
PartsMiss parts short.Parts = ⊥
PartsMiss parts short.Algorithm =
    (algorithm : Algorithm) → parts.algorithm ≢ algorithm_content algorithm
PartsMiss parts short.Validity =
    HasAlgorithm parts × ((validity : Validity) → ¬ IsValidity parts.validity validity)
PartsMiss parts short.Key =
    HasAlgorithm parts × HasValidity parts
    × ((curve : Curve) (coordinates : List ℕ) → ¬ IsKeyContent parts.key curve coordinates)
PartsMiss parts (short.Extensions missed) =
    HasAlgorithm parts × HasValidity parts × HasKey parts × ExtensionsMiss parts.extensions missed

-- bytes miss this condition: they have no such parts, or parts that miss it
abbrev pub BytesMiss : List ℕ → CertificateShortfall → Type 0
BytesMiss bytes short.Parts =
    (parts : Parts) (signature : List ℕ) → ¬ IsCertificate bytes parts signature
BytesMiss bytes missed =
    (parts : Parts) × (signature : List ℕ) × IsCertificate bytes parts signature
    × PartsMiss parts missed
