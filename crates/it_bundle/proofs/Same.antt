-- A document is one bundle at most.
use Rattle.std.proofs.Common.{◌≡◌, ◌∙◌, ℕ, ◌<◌, ◌≤◌, List, [], length, get_or, codes, Option}
use Rattle.std.proofs.Common.{Some, None, MatchOption, inl, inr}
use Rattle.std.proofs.Common.{refl, sym, ap, subst, arith}
use Rattle.std.proofs.lemmas.Option.{same_Some}
use Rattle.serde_json.specs.Data.{Data}
use Rattle.serde_json.specs.Find.{as_str}
use Rattle.it_base.specs.Base64Text.{IsBase64}
use Rattle.it_base.specs.Document.{member_at}
use Rattle.it_base.specs.Sequence.{IsList}
use Rattle.it_base.specs.Table.{Stands}
use Rattle.it_base.specs.Text.{IsText}
use Rattle.it_base.proofs.Unique.{IsUnique, list_same, of_document_same, part_same, text_same}
use Rattle.it_dsse.specs.Envelope.{IsEnvelope, IsSignature}
use Rattle.it_log_entry.proofs.Entries.{entry_same, stands_same}
use Rattle.it_log_entry.proofs.Same.{base64_same, part_or_same}
use Rattle.it_bundle.specs.Bundle.{BundleOf, IsSigstoreBundle}
use Rattle.it_bundle.specs.Certificate.{IsChain, IsInChain, IsRawBytes, IsRead, IsSaid}
use Rattle.it_bundle.specs.Entries.{AreListed, IsEntries, IsListedEntry}
use Rattle.it_bundle.specs.Material.{IsMaterial}
use Rattle.it_bundle.specs.Version.{IsMediaType, IsVersion}
use Rattle.it_bundle.specs.declared.bundle.SigstoreBundle.{SigstoreBundle}
use Rattle.it_bundle.specs.declared.certificate.BundleCertificate.{BundleCertificate}
use Rattle.it_bundle.specs.declared.certificate.BundleCertificate.TheVariants.{Bytes, Lacks}
use Rattle.it_bundle.specs.declared.entries.BundleEntries.TheVariants.{Listed, Missing, TooMany}
use Rattle.it_bundle.specs.declared.listed_entry.ListedEntry.{ListedEntry}
use Rattle.it_bundle.specs.declared.listed_entry.ListedEntry.TheVariants.{Entry, Unreadable}
use Rattle.it_bundle.specs.declared.version.BundleVersion.{BundleVersion}
use Rattle.it_bundle.specs.declared.version.BundleVersion.TheVariants.{V1, V2, V3}

-- ---- envelopes
signature_same : IsUnique IsSignature
signature_same d x y h k =
    let sig = part_same IsBase64 base64_same (codes "sig") d x.sig y.sig h.sig k.sig in
    let keyid = part_or_same IsText [] (codes "keyid") text_same d x.keyid y.keyid h.keyid
    k.keyid in
    λ i. record { sig = sig i; keyid = keyid i }

envelope_same : IsUnique IsEnvelope
envelope_same d x y h k =
    let payload = part_same IsBase64 base64_same (codes "payload") d x.payload y.payload h.payload
    k.payload in
    let payload_type = part_same IsText text_same (codes "payloadType") d x.payload_type
    y.payload_type h.payload_type k.payload_type in
    let signatures = part_same (IsList IsSignature) (list_same IsSignature signature_same)
    (codes "signatures") d x.signatures y.signatures h.signatures k.signatures in
    λ i. record { payload = payload i; payload_type = payload_type i; signatures = signatures i }

-- ---- versions
-- texts with different bytes at a place are different
apart : (text one other : List ℕ) (n a b : ℕ) → text ≡ one → text ≡ other → get_or one n 0 ≡ a
    → get_or other n 0 ≡ b → (a ≡ b → ⊥) → ⊥
apart text one other n a b h k first second differ =
    differ (sym first ∙ ap (λ t. get_or t n 0) (sym h ∙ k) ∙ second)

media_same : (text : List ℕ) (x y : BundleVersion) → IsMediaType text x → IsMediaType text y → x ≡ y
media_same text V1 V1 h k = refl
media_same text V2 V2 h k = refl
media_same text V3 V3 h k = refl
media_same text V1 V2 h k =
    absurd (apart text _ _ 51 49 50 h k refl refl (λ e. omega (arith, e)))
media_same text V2 V1 h k =
    absurd (apart text _ _ 51 50 49 h k refl refl (λ e. omega (arith, e)))
media_same text V1 V3 h (inl k) =
    absurd (apart text _ _ 51 49 51 h k refl refl (λ e. omega (arith, e)))
media_same text V1 V3 h (inr k) =
    absurd (apart text _ _ 35 43 46 h k refl refl (λ e. omega (arith, e)))
media_same text V3 V1 (inl h) k =
    absurd (apart text _ _ 51 51 49 h k refl refl (λ e. omega (arith, e)))
media_same text V3 V1 (inr h) k =
    absurd (apart text _ _ 35 46 43 h k refl refl (λ e. omega (arith, e)))
media_same text V2 V3 h (inl k) =
    absurd (apart text _ _ 51 50 51 h k refl refl (λ e. omega (arith, e)))
media_same text V2 V3 h (inr k) =
    absurd (apart text _ _ 35 43 46 h k refl refl (λ e. omega (arith, e)))
media_same text V3 V2 (inl h) k =
    absurd (apart text _ _ 51 51 50 h k refl refl (λ e. omega (arith, e)))
media_same text V3 V2 (inr h) k =
    absurd (apart text _ _ 35 46 43 h k refl refl (λ e. omega (arith, e)))

version_found : (found : Option (List ℕ)) (x y : BundleVersion)
    → MatchOption found ⊥ (λ text. IsMediaType text x)
    → MatchOption found ⊥ (λ text. IsMediaType text y) → x ≡ y
version_found None x y h k = absurd h
version_found (Some text) x y h k = media_same text x y h k

version_same : IsUnique IsVersion
version_same d x y h k = version_found (as_str d) x y h k

-- ---- entries
listed_same : IsUnique IsListedEntry
listed_same d (Entry x) (Entry y) h k = ap (λ e. Entry e) (entry_same d x y h k)
listed_same d (Entry x) Unreadable h k = absurd (k x h)
listed_same d Unreadable (Entry y) h k = absurd (h y k)
listed_same d Unreadable Unreadable h k = refl

pub lists_same : IsUnique AreListed
lists_same = part_same (IsList IsListedEntry) (list_same IsListedEntry listed_same)
    (codes "tlogEntries")

none_long : (xs : List ListedEntry) → xs ≡ [] → 0 < length xs → ⊥
none_long xs none some = let long : length xs ≡ 0 = ap length none in absurd (omega arith)

few_many : (xs ys : List ListedEntry) → xs ≡ ys → length xs ≤ 8 → 8 < length ys → ⊥
few_many xs ys same few many =
    let long : length xs ≡ length ys = ap length same in absurd (omega arith)

entries_same : IsUnique IsEntries
entries_same d (Listed xs) (Listed ys) h k = ap (λ es. Listed es) (lists_same d xs ys h.0 k.0)
entries_same d (Listed xs) Missing h k = absurd (none_long xs (k xs h.0) h.1)
entries_same d (Listed xs) TooMany h k =
    absurd (few_many xs k.0 (lists_same d xs k.0 h.0 k.1) h.2 k.2)
entries_same d Missing (Listed ys) h k = absurd (none_long ys (h ys k.0) k.1)
entries_same d Missing Missing h k = refl
entries_same d Missing TooMany h k = absurd (none_long k.0 (h k.0 k.1) (omega (arith, k.2)))
entries_same d TooMany (Listed ys) h k =
    absurd (few_many ys h.0 (lists_same d ys h.0 k.0 h.1) k.2 h.2)
entries_same d TooMany Missing h k = absurd (none_long h.0 (k h.0 h.1) (omega (arith, h.2)))
entries_same d TooMany TooMany h k = refl

-- ---- certificates
raw_same : IsUnique IsRawBytes
raw_same = part_same IsBase64 base64_same (codes "rawBytes")

chain_same : IsUnique IsChain
chain_same d x y h k =
    raw_same h.first x y h.bytes_are
    (subst (λ v. IsRawBytes v y) (same_Some k.first h.first (sym k.is_first ∙ h.is_first)) k.bytes_are)

read_same : (P : List ℕ → Type 0) → ((x y : List ℕ) → P x → P y → x ≡ y)
    → (x y : BundleCertificate) → IsRead P x → IsRead P y → x ≡ y
read_same P same (Bytes x) (Bytes y) h k = ap (λ b. Bytes b) (same x y h k)
read_same P same (Bytes x) (Lacks reason) h k = absurd (k.1 x h)
read_same P same (Lacks reason) (Bytes y) h k = absurd (h.1 y k)
read_same P same (Lacks one) (Lacks other) h k = ap (λ r. Lacks r) (h.0 ∙ sym k.0)

in_chain_same : (version : BundleVersion) (chain : Data) (x y : BundleCertificate)
    → IsInChain version chain x → IsInChain version chain y → x ≡ y
in_chain_same V1 chain x y h k = read_same (IsChain chain) (chain_same chain) x y h k
in_chain_same V2 chain x y h k = read_same (IsChain chain) (chain_same chain) x y h k
in_chain_same V3 chain x y h k = h ∙ sym k

said_same : (version : BundleVersion) (key alone chain : Option Data) (x y : BundleCertificate)
    → IsSaid version key alone chain x → IsSaid version key alone chain y → x ≡ y
said_same version (Some key) alone chain x y h k = h ∙ sym k
said_same version None None None x y h k = h ∙ sym k
said_same version None (Some alone) None x y h k =
    read_same (IsRawBytes alone) (raw_same alone) x y h k
said_same version None None (Some chain) x y h k = in_chain_same version chain x y h k
said_same version None (Some alone) (Some chain) x y h k = h ∙ sym k

-- ---- bundles
material_same : (version : BundleVersion) → IsUnique (IsMaterial version)
material_same version d x y h k =
    let certificate = said_same version (member_at (codes "publicKey") d)
    (member_at (codes "certificate") d) (member_at (codes "x509CertificateChain") d) x.certificate
    y.certificate h.certificate k.certificate in
    let entries = entries_same d x.entries y.entries h.entries k.entries in
    λ i. record { certificate = certificate i; entries = entries i }

bundle_part_same : IsUnique IsSigstoreBundle
bundle_part_same d x y h k =
    let version = part_same IsVersion version_same (codes "mediaType") d x.version y.version
    h.version k.version in
    let envelope = part_same IsEnvelope envelope_same (codes "dsseEnvelope") d x.envelope y.envelope
    h.envelope k.envelope in
    let material = stands_same (IsMaterial x.version) (material_same x.version)
    (member_at (codes "verificationMaterial") d) x.material y.material h.material
    (subst (λ v. Stands (IsMaterial v) (member_at (codes "verificationMaterial") d) y.material)
    (sym version) k.material) in
    λ i. record { version = version i; envelope = envelope i; material = material i }

pub bundle_same : (bytes : List ℕ) (x y : SigstoreBundle) → BundleOf bytes x → BundleOf bytes y
    → x ≡ y
bundle_same = of_document_same IsSigstoreBundle bundle_part_same
