-- What a bundle misses, and that it then vouches for nobody.
use Rattle.std.proofs.Common.{◌≡◌, ◌↔◌, ℕ, Bool, false, true≢false, IsTrue, List, [], ◌∷◌, Option, Some, None, MatchOption, length, map, refl, sym, ap, subst, ◌∙◌}
use Rattle.std.proofs.lemmas.List.{length-map}
use Rattle.it_bundle.specs.declared.bundle.SigstoreBundle.{SigstoreBundle}
use Rattle.it_bundle.specs.declared.certificate.BundleCertificate.{BundleCertificate}
use Rattle.it_bundle.specs.declared.certificate.BundleCertificate.TheVariants.{Bytes, Lacks}
use Rattle.it_bundle.specs.declared.certificate.NoCertificate.{NoCertificate}
use Rattle.it_bundle.specs.declared.entries.BundleEntries.{BundleEntries}
use Rattle.it_bundle.specs.declared.entries.BundleEntries.TheVariants.{Listed, Missing, TooMany}
use Rattle.it_bundle.specs.declared.listed_entry.ListedEntry.{ListedEntry}
use Rattle.it_bundle.specs.declared.material.Material.{Material}
use Rattle.it_certificate.specs.Certificate.{Facts}
use Rattle.it_certificate.proofs.OneLeaf.{one_leaf}
use Rattle.it_dsse.specs.declared.envelope.Signature.{Signature as EnvelopeSignature}
use Rattle.it_dsse.specs.Signed.{message_of}
use Rattle.it_identity.specs.Identity.{IsIdentity, IsShort}
use Rattle.it_identity.specs.declared.identity.Identity.{Identity}
use Rattle.it_issued.specs.Signature.{IsByP256, key_info}
use Rattle.it_log_entry.specs.Place.{place_of}
use Rattle.it_log_entry.specs.declared.shortfall.EntryShortfall.{EntryShortfall}
use Rattle.it_trust_root.specs.declared.root.TrustedRoot.{TrustedRoot}
use Rattle.it_vouches.specs.Claim.{Brought}
use Rattle.it_vouches.specs.EntryMissed.{IsMissedByEntry}
use Rattle.it_vouches.specs.Furthest.{IsFurthest}
use Rattle.it_vouches.specs.IssuerMissed.{issuer_place}
use Rattle.it_vouches.specs.Judged.{IsJudged, VouchesForNobody}
use Rattle.it_vouches.specs.Misses.{HasCertificate, HasIssuer, HasLog, HasNoEntry, IsMissedByIssuer, Misses, Names}
use Rattle.it_vouches.specs.declared.issuer_shortfall.IssuerShortfall.{IssuerShortfall}
use Rattle.it_vouches.specs.declared.judgement.Judged.TheVariants.{Misses as ForNobody}
use Rattle.it_vouches.specs.declared.shortfall.Shortfall.{Shortfall}
use Rattle.it_vouches.specs.declared.shortfall.Shortfall.TheVariants as shortfalls
use Rattle.it_vouches.proofs.Vouching.{leaf_of, seen}

-- two things that cannot both be so of a bundle's material
both : (A B : Material → Type 0) → ((m : Material) → A m → B m → ⊥) → (material : Option Material) → MatchOption material ⊥ A
    → MatchOption material ⊥ B → ⊥
both A B clash None one two = one
both A B clash (Some m) one two = clash m one two

no_bytes : (certificate : BundleCertificate) (reason : NoCertificate) (bytes : List ℕ) → certificate ≡ Lacks reason
    → certificate ≡ Bytes bytes → ⊥
no_bytes certificate reason bytes one two = let both : Lacks reason ≡ Bytes bytes = sym one ∙ two in cc

not_missing : (entries : BundleEntries) (es : List ListedEntry) → entries ≡ Missing → entries ≡ Listed es → ⊥
not_missing entries es one two = let both : Missing ≡ Listed es = sym one ∙ two in cc

not_many : (entries : BundleEntries) (es : List ListedEntry) → entries ≡ TooMany → entries ≡ Listed es → ⊥
not_many entries es one two = let both : TooMany ≡ Listed es = sym one ∙ two in cc

pub one_signature : (signatures : List EnvelopeSignature) (signature : List ℕ) → map (λ s. s.sig) signatures ≡ signature ∷ [] → length signatures ≡ 1
one_signature signatures signature only =
    sym (length-map signatures (λ s. s.sig)) ∙ ap (λ (l : List (List ℕ)). length l) only

-- a bundle that misses a condition vouches for nobody
pub nobody : (root : TrustedRoot) (bundle : SigstoreBundle) (s : Shortfall) → Misses root bundle s → VouchesForNobody root bundle
nobody root bundle (shortfalls.Signatures count) m = λ identity v.
    m.1 (m.0 ∙ one_signature bundle.envelope.signatures v.signature v.claims.one_signature)
nobody root bundle shortfalls.Material m = λ identity v.
    subst (λ (material : Option Material). MatchOption material ⊥ (λ x. x.certificate ≡ Bytes v.certificate)) m.1 v.claims.certificate_is
nobody root bundle (shortfalls.Certificate reason) m = λ identity v.
    both (λ x. x.certificate ≡ Lacks reason) (λ x. x.certificate ≡ Bytes v.certificate)
    (λ x. no_bytes x.certificate reason v.certificate) bundle.material m.1 v.claims.certificate_is
nobody root bundle shortfalls.NoEntry m = λ identity v.
    both (λ x. HasCertificate x × (x.entries ≡ Missing)) (λ x. x.entries ≡ Listed v.entries)
    (λ x one two. not_missing x.entries v.entries one.1 two) bundle.material m.1 v.claims.entries_are
nobody root bundle shortfalls.ManyEntries m = λ identity v.
    both (λ x. HasCertificate x × (x.entries ≡ TooMany)) (λ x. x.entries ≡ Listed v.entries)
    (λ x one two. not_many x.entries v.entries one.1 two) bundle.material m.1 v.claims.entries_are
nobody root bundle (shortfalls.Leaf missed) m = λ identity v.
    let leaf = leaf_of root bundle m.brought identity m.brings v in
    m.no_leaf leaf.leaf identity.name identity.issuer leaf.is
nobody root bundle shortfalls.Identity m = λ identity v.
    let leaf = leaf_of root bundle m.brought identity m.brings v in
    let same = one_leaf m.brought.certificate leaf.leaf m.leaf identity.name identity.issuer m.name m.issuer leaf.is m.leaf_is in
    m.not_short (subst IsShort same.1 v.is_identity.name, subst IsShort same.2 v.is_identity.issuer)
nobody root bundle shortfalls.Entry m = λ identity v.
    let n = m.names in
    let has = (seen root bundle m.brought m.leaf m.identity.name m.identity.issuer identity n.brings n.leaf_is v).has_issuer in
    m.no_entry has.entry has.by_log.is_entry
nobody root bundle (shortfalls.Log missed) m = λ identity v.
    let n = m.names in
    let has = (seen root bundle m.brought m.leaf m.identity.name m.identity.issuer identity n.brings n.leaf_is v).has_issuer in
    m.no_log (has.entry, has.by_log)
nobody root bundle (shortfalls.Issuer missed) m = λ identity v.
    let n = m.names in
    m.no_issuer (seen root bundle m.brought m.leaf m.identity.name m.identity.issuer identity n.brings n.leaf_is v).has_issuer
nobody root bundle shortfalls.Signature m = λ identity v.
    let n = m.names in
    m.not_signed (seen root bundle m.brought m.leaf m.identity.name m.identity.issuer identity n.brings n.leaf_is v).signed

pub judged_short : (root : TrustedRoot) (bundle : SigstoreBundle) (s : Shortfall) → Misses root bundle s
    → IsJudged root bundle (ForNobody s)
judged_short root bundle s m = (nobody root bundle s m, m)

-- ---- by what is read of the leaf
pub not_short : (name issuer : List ℕ) → ((x : Identity) → (x.name ≡ name) × (x.issuer ≡ issuer) × IsIdentity x → ⊥)
    → ¬ (IsShort name × IsShort issuer)
not_short name issuer none short =
    none (record { name = name; issuer = issuer }) (refl, refl, record { name = short.0; issuer = short.1 })

pub entry_missed : (root : TrustedRoot) (bundle : SigstoreBundle) (b : Brought) (f : Facts) (identity : Identity)
    → Names bundle b f identity → HasNoEntry b → IsJudged root bundle (ForNobody shortfalls.Entry)
entry_missed root bundle b f identity names none =
    judged_short root bundle shortfalls.Entry (record { brought = b; leaf = f; identity = identity; names = names; no_entry = none })

pub log_missed : (root : TrustedRoot) (bundle : SigstoreBundle) (b : Brought) (f : Facts) (identity : Identity) (missed : EntryShortfall)
    → Names bundle b f identity → (¬ HasLog root bundle b) × IsFurthest place_of (IsMissedByEntry root bundle b) missed
    → IsJudged root bundle (ForNobody (shortfalls.Log missed))
log_missed root bundle b f identity missed names found = judged_short root bundle (shortfalls.Log missed) (record {
  brought = b;
  leaf = f;
  identity = identity;
  names = names;
  no_log = found.0;
  furthest = found.1;
})

pub issuer_missed : (root : TrustedRoot) (bundle : SigstoreBundle) (b : Brought) (f : Facts) (identity : Identity) (missed : IssuerShortfall)
    → Names bundle b f identity
    → HasLog root bundle b × (¬ HasIssuer root bundle b f) × IsFurthest issuer_place (IsMissedByIssuer root bundle b f) missed
    → IsJudged root bundle (ForNobody (shortfalls.Issuer missed))
issuer_missed root bundle b f identity missed names found = judged_short root bundle (shortfalls.Issuer missed) (record {
  brought = b;
  leaf = f;
  identity = identity;
  names = names;
  has_log = found.0;
  no_issuer = found.1;
  furthest = found.2;
})

pub signature_missed : (root : TrustedRoot) (bundle : SigstoreBundle) (b : Brought) (f : Facts) (identity : Identity) (is : Bool)
    → Names bundle b f identity → HasIssuer root bundle b f
    → IsTrue is ↔ IsByP256 (key_info f.curve f.coordinates) (message_of bundle.envelope) b.signature → is ≡ false
    → IsJudged root bundle (ForNobody shortfalls.Signature)
signature_missed root bundle b f identity is names has iff wrong = judged_short root bundle shortfalls.Signature (record {
  brought = b;
  leaf = f;
  identity = identity;
  names = names;
  has_issuer = has;
  not_signed = λ signed. true≢false (sym (iff.1 signed) ∙ wrong);
})
