-- Bytes that miss a condition are no certificate.
use Rattle.std.proofs.Common.{ℕ, List, Result, Ok, Err, IfOk, MatchResult, true≢false, sym, subst, ◌∙◌, ◌≡◌}
use Rattle.it_certificate.specs.Allowed.{AreAllowed}
use Rattle.it_certificate.specs.Certificate.{AreOf, CertificateOf, Facts, facts_of}
use Rattle.it_certificate.specs.CertificateMissed.{BytesMiss, ExtensionsMiss, ListedMiss, PartsMiss}
use Rattle.it_certificate.specs.Extension.{Stated, AreExtensions}
use Rattle.it_certificate.specs.Known.{AreKnown}
use Rattle.it_certificate.specs.Parts.{IsCertificate, Parts, parts_of, signed_bytes}
use Rattle.it_certificate.specs.Permitted.{ArePermitted}
use Rattle.it_certificate.specs.declared.certificate.Certificate.{Certificate}
use Rattle.it_certificate.specs.declared.known.Known.{Known}
use Rattle.it_certificate.specs.declared.parts.CertificateParts.{CertificateParts}
use Rattle.it_certificate.specs.declared.shortfall.CertificateShortfall.{CertificateShortfall}
use Rattle.it_certificate.specs.declared.shortfall.CertificateShortfall.TheVariants as short
use Rattle.it_certificate.specs.declared.shortfall.ExtensionsShortfall.{ExtensionsShortfall}
use Rattle.it_certificate.specs.declared.shortfall.ExtensionsShortfall.TheVariants as listed
use Rattle.it_certificate.proofs.OneWay.{one_certificate}
use Rattle.it_certificate.proofs.Stating.{one_list}

-- extensions that miss a condition are not permitted, or not known
not_listed : (extensions : List Stated) (missed : ExtensionsShortfall) → ListedMiss extensions missed
    → (known : Known) → ArePermitted extensions → AreKnown extensions known → ⊥
not_listed extensions listed.Form m known permitted are = m
not_listed extensions listed.NameConstraints m known permitted are = m permitted.unconstrained
not_listed extensions listed.Critical m known permitted are = true≢false (sym permitted.known ∙ m.1)
not_listed extensions listed.Twice m known permitted are = m.2 permitted.distinct
not_listed extensions listed.Values m known permitted are = m.1 known are

not_read : (content : List ℕ) (missed : ExtensionsShortfall) (read : List Stated) → AreExtensions content read
    → ListedMiss read missed → (extensions : List Stated) (known : Known) → AreAllowed content extensions known → ⊥
not_read content missed read are m extensions known allowed =
    not_listed extensions missed
    (subst (λ (es : List Stated). ListedMiss es missed) (one_list content read extensions are allowed.are) m)
    known allowed.permitted allowed.known

not_allowed : (content : List ℕ) (missed : ExtensionsShortfall) → ExtensionsMiss content missed
    → (extensions : List Stated) (known : Known) → AreAllowed content extensions known → ⊥
not_allowed content listed.Form m extensions known allowed = m extensions allowed.are
not_allowed content listed.NameConstraints m extensions known allowed =
    not_read content listed.NameConstraints m.0 m.1 m.2 extensions known allowed
not_allowed content listed.Critical m extensions known allowed =
    not_read content listed.Critical m.0 m.1 m.2 extensions known allowed
not_allowed content listed.Twice m extensions known allowed =
    not_read content listed.Twice m.0 m.1 m.2 extensions known allowed
not_allowed content listed.Values m extensions known allowed =
    not_read content listed.Values m.0 m.1 m.2 extensions known allowed

-- parts that miss a condition are those of no certificate
not_of_parts : (parts : Parts) (missed : CertificateShortfall) → PartsMiss parts missed
    → (f : Facts) → AreOf parts f → ⊥
not_of_parts parts short.Parts m f says = m
not_of_parts parts short.Algorithm m f says = m f.algorithm says.algorithm
not_of_parts parts short.Validity m f says = m.1 f.validity says.validity
not_of_parts parts short.Key m f says = m.2 f.curve f.coordinates says.key
not_of_parts parts (short.Extensions missed) m f says =
    not_allowed parts.extensions missed m.3 f.extensions f.known says.extensions

not_with_parts : (bytes : List ℕ) (missed : CertificateShortfall) (parts : Parts) (signature : List ℕ)
    → IsCertificate bytes parts signature → PartsMiss parts missed → (f : Facts) → CertificateOf bytes f → ⊥
not_with_parts bytes missed parts signature is m f whole =
    let same = one_certificate bytes f.parts parts f.signature signature whole.parts is in
    not_of_parts parts missed m f (subst (λ (p : Parts). AreOf p f) same.0 whole.says)

-- bytes that miss a condition are no certificate
pub no_certificate : (bytes : List ℕ) (missed : CertificateShortfall) → BytesMiss bytes missed
    → (f : Facts) → CertificateOf bytes f → ⊥
no_certificate bytes short.Parts m f whole = m f.parts f.signature whole.parts
no_certificate bytes short.Algorithm m f whole = not_with_parts bytes short.Algorithm m.0 m.1 m.2 m.3 f whole
no_certificate bytes short.Validity m f whole = not_with_parts bytes short.Validity m.0 m.1 m.2 m.3 f whole
no_certificate bytes short.Key m f whole = not_with_parts bytes short.Key m.0 m.1 m.2 m.3 f whole
no_certificate bytes (short.Extensions missed) m f whole =
    not_with_parts bytes (short.Extensions missed) m.0 m.1 m.2 m.3 f whole

-- bytes whose parts miss a condition
bytes_miss : (bytes : List ℕ) (parts : Parts) (signature : List ℕ) (missed : CertificateShortfall)
    → IsCertificate bytes parts signature → PartsMiss parts missed → BytesMiss bytes missed
bytes_miss bytes parts signature short.Parts is m = absurd m
bytes_miss bytes parts signature short.Algorithm is m = (parts, signature, is, m)
bytes_miss bytes parts signature short.Validity is m = (parts, signature, is, m)
bytes_miss bytes parts signature short.Key is m = (parts, signature, is, m)
bytes_miss bytes parts signature (short.Extensions missed) is m = (parts, signature, is, m)

-- a certificate, or what it misses, by its parts that were read
whole_read : (bytes : List ℕ) (parts : CertificateParts) (r : Result Certificate CertificateShortfall)
    → IsCertificate bytes (parts_of parts) parts.signature.now → parts.signed.now ≡ signed_bytes (parts_of parts)
    → MatchResult r (λ c. AreOf (parts_of parts) (facts_of c) × (c.parts ≡ parts)) (PartsMiss (parts_of parts))
    → MatchResult r (λ c. CertificateOf bytes (facts_of c) × (c.parts.signed.now ≡ signed_bytes (parts_of c.parts)))
    (BytesMiss bytes)
whole_read bytes parts (Ok c) is signed found = (
  record {
    parts = subst (λ (p : CertificateParts). IsCertificate bytes (parts_of p) p.signature.now) (sym found.1) is;
    says = subst (λ (p : CertificateParts). AreOf (parts_of p) (facts_of c)) (sym found.1) found.0;
  },
  subst (λ (p : CertificateParts). p.signed.now ≡ signed_bytes (parts_of p)) (sym found.1) signed,
)
whole_read bytes parts (Err missed) is signed m =
    bytes_miss bytes (parts_of parts) parts.signature.now missed is m

pub whole_read_if_ok : {E : Type 0} (bytes : List ℕ) (parts : CertificateParts)
    (r : Result (Result Certificate CertificateShortfall) E)
    → IsCertificate bytes (parts_of parts) parts.signature.now → parts.signed.now ≡ signed_bytes (parts_of parts)
    → IfOk r (λ read. MatchResult read (λ c. AreOf (parts_of parts) (facts_of c) × (c.parts ≡ parts))
    (PartsMiss (parts_of parts)))
    → IfOk r (λ read. MatchResult read
    (λ c. CertificateOf bytes (facts_of c) × (c.parts.signed.now ≡ signed_bytes (parts_of c.parts))) (BytesMiss bytes))
whole_read_if_ok bytes parts (Ok read) is signed says = whole_read bytes parts read is signed says
whole_read_if_ok bytes parts (Err e) is signed says = says
