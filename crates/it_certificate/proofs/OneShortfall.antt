-- Bytes miss at most one condition of a certificate.
use Rattle.std.proofs.Common.{◌≡◌, ◌∙◌, ◌⊎◌, inl, inr, ℕ, List, ap, refl, subst, sym, true≢false}
use Rattle.it_certificate.specs.CertificateMissed.{BytesMiss, ExtensionsMiss, ListedMiss, PartsMiss}
use Rattle.it_certificate.specs.Extension.{Stated, AreExtensions}
use Rattle.it_certificate.specs.Parts.{IsCertificate, Parts}
use Rattle.it_certificate.specs.declared.shortfall.CertificateShortfall.{CertificateShortfall}
use Rattle.it_certificate.specs.declared.shortfall.CertificateShortfall.TheVariants as short
use Rattle.it_certificate.specs.declared.shortfall.ExtensionsShortfall.{ExtensionsShortfall}
use Rattle.it_certificate.specs.declared.shortfall.ExtensionsShortfall.TheVariants as listed
use Rattle.it_certificate.proofs.OneWay.{one_certificate}
use Rattle.it_certificate.proofs.Stating.{one_list}

-- ---- extensions
listed_once : (es : List Stated) (m n : ExtensionsShortfall) → ListedMiss es m → ListedMiss es n
    → m ≡ n
listed_once es listed.Form n one two = absurd one
listed_once es m listed.Form one two = absurd two
listed_once es listed.NameConstraints listed.NameConstraints one two = refl
listed_once es listed.NameConstraints listed.Critical one two = absurd (one two.0)
listed_once es listed.NameConstraints listed.Twice one two = absurd (one two.0)
listed_once es listed.NameConstraints listed.Values one two = absurd (one two.0.unconstrained)
listed_once es listed.Critical listed.NameConstraints one two = absurd (two one.0)
listed_once es listed.Critical listed.Critical one two = refl
listed_once es listed.Critical listed.Twice one two = absurd (true≢false (sym two.1 ∙ one.1))
listed_once es listed.Critical listed.Values one two =
    absurd (true≢false (sym two.0.known ∙ one.1))
listed_once es listed.Twice listed.NameConstraints one two = absurd (two one.0)
listed_once es listed.Twice listed.Critical one two = absurd (true≢false (sym one.1 ∙ two.1))
listed_once es listed.Twice listed.Twice one two = refl
listed_once es listed.Twice listed.Values one two = absurd (one.2 two.0.distinct)
listed_once es listed.Values listed.NameConstraints one two = absurd (two one.0.unconstrained)
listed_once es listed.Values listed.Critical one two =
    absurd (true≢false (sym one.0.known ∙ two.1))
listed_once es listed.Values listed.Twice one two = absurd (two.2 one.0.distinct)
listed_once es listed.Values listed.Values one two = refl

-- content that has another form, or whose extensions miss a condition
abbrev Listed : List ℕ → ExtensionsShortfall → Type 0
Listed content m = (es : List Stated) × AreExtensions content es × ListedMiss es m

form_or_list : (content : List ℕ) (m : ExtensionsShortfall) → ExtensionsMiss content m
    → (m ≡ listed.Form) ⊎ Listed content m
form_or_list content listed.Form miss = inl refl
form_or_list content listed.NameConstraints miss = inr miss
form_or_list content listed.Critical miss = inr miss
form_or_list content listed.Twice miss = inr miss
form_or_list content listed.Values miss = inr miss

by_form : (content : List ℕ) (m n : ExtensionsShortfall) → (m ≡ listed.Form) ⊎ Listed content m
    → (n ≡ listed.Form) ⊎ Listed content n → ExtensionsMiss content m → ExtensionsMiss content n
    → m ≡ n
by_form content m n (inl one) (inl two) first second = one ∙ sym two
by_form content m n (inl one) (inr two) first second =
    absurd (subst (ExtensionsMiss content) one first two.0 two.1)
by_form content m n (inr one) (inl two) first second =
    absurd (subst (ExtensionsMiss content) two second one.0 one.1)
by_form content m n (inr one) (inr two) first second =
    listed_once two.0 m n
    (subst (λ (es : List Stated). ListedMiss es m) (one_list content one.0 two.0 one.1 two.1) one.2)
    two.2

extensions_once : (content : List ℕ) (m n : ExtensionsShortfall) → ExtensionsMiss content m
    → ExtensionsMiss content n → m ≡ n
extensions_once content m n one two =
    by_form content m n (form_or_list content m one) (form_or_list content n two) one two

-- ---- parts
parts_once : (parts : Parts) (m n : CertificateShortfall) → PartsMiss parts m → PartsMiss parts n
    → m ≡ n
parts_once parts short.Parts n one two = absurd one
parts_once parts m short.Parts one two = absurd two
parts_once parts short.Algorithm short.Algorithm one two = refl
parts_once parts short.Algorithm short.Validity one two = absurd (one two.0.0 two.0.1)
parts_once parts short.Algorithm short.Key one two = absurd (one two.0.0 two.0.1)
parts_once parts short.Algorithm (short.Extensions n) one two = absurd (one two.0.0 two.0.1)
parts_once parts short.Validity short.Algorithm one two = absurd (two one.0.0 one.0.1)
parts_once parts short.Validity short.Validity one two = refl
parts_once parts short.Validity short.Key one two = absurd (one.1 two.1.0 two.1.1)
parts_once parts short.Validity (short.Extensions n) one two = absurd (one.1 two.1.0 two.1.1)
parts_once parts short.Key short.Algorithm one two = absurd (two one.0.0 one.0.1)
parts_once parts short.Key short.Validity one two = absurd (two.1 one.1.0 one.1.1)
parts_once parts short.Key short.Key one two = refl
parts_once parts short.Key (short.Extensions n) one two = absurd (one.2 two.2.0 two.2.1 two.2.2)
parts_once parts (short.Extensions m) short.Algorithm one two = absurd (two one.0.0 one.0.1)
parts_once parts (short.Extensions m) short.Validity one two = absurd (two.1 one.1.0 one.1.1)
parts_once parts (short.Extensions m) short.Key one two = absurd (two.2 one.2.0 one.2.1 one.2.2)
parts_once parts (short.Extensions m) (short.Extensions n) one two =
    ap short.Extensions (extensions_once parts.extensions m n one.3 two.3)

-- ---- bytes without such parts, or whose parts miss a condition
abbrev HasParts : List ℕ → CertificateShortfall → Type 0
HasParts bytes m =
    (parts : Parts) × (signature : List ℕ) × IsCertificate bytes parts signature × PartsMiss parts m

none_or_parts : (bytes : List ℕ) (m : CertificateShortfall) → BytesMiss bytes m
    → (m ≡ short.Parts) ⊎ HasParts bytes m
none_or_parts bytes short.Parts miss = inl refl
none_or_parts bytes short.Algorithm miss = inr miss
none_or_parts bytes short.Validity miss = inr miss
none_or_parts bytes short.Key miss = inr miss
none_or_parts bytes (short.Extensions m) miss = inr miss

by_parts : (bytes : List ℕ) (m n : CertificateShortfall) → (m ≡ short.Parts) ⊎ HasParts bytes m
    → (n ≡ short.Parts) ⊎ HasParts bytes n → BytesMiss bytes m → BytesMiss bytes n → m ≡ n
by_parts bytes m n (inl one) (inl two) first second = one ∙ sym two
by_parts bytes m n (inl one) (inr two) first second =
    absurd (subst (BytesMiss bytes) one first two.0 two.1 two.2)
by_parts bytes m n (inr one) (inl two) first second =
    absurd (subst (BytesMiss bytes) two second one.0 one.1 one.2)
by_parts bytes m n (inr one) (inr two) first second =
    let same = one_certificate bytes one.0 two.0 one.1 two.1 one.2 two.2 in
    parts_once two.0 m n (subst (λ (p : Parts). PartsMiss p m) same.0 one.3) two.3

pub one_shortfall : (bytes : List ℕ) (one other : CertificateShortfall) → BytesMiss bytes one
    → BytesMiss bytes other → one ≡ other
one_shortfall bytes m n one two =
    by_parts bytes m n (none_or_parts bytes m one) (none_or_parts bytes n two) one two
