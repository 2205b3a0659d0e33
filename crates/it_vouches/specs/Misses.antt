-- Which condition a bundle misses that vouches for nobody: the first that it does not meet, in an
-- order that is this profile's choice. It meets those before it.
use Rattle.std.specs.Prelude.{◌≡◌, ◌≢◌, ℕ, List, None, MatchOption, Any, Contains, length}
use Rattle.it_bundle.specs.declared.bundle.SigstoreBundle.{SigstoreBundle}
use Rattle.it_bundle.specs.declared.certificate.BundleCertificate.TheVariants.{Bytes, Lacks}
use Rattle.it_bundle.specs.declared.entries.BundleEntries.TheVariants.{Missing, TooMany}
use Rattle.it_bundle.specs.declared.listed_entry.ListedEntry.TheVariants.{Entry}
use Rattle.it_bundle.specs.declared.material.Material.{Material}
use Rattle.it_certificate.specs.Certificate.{Facts}
use Rattle.it_certificate.specs.Leaf.{LeafOf}
use Rattle.it_certificate.specs.LeafMisses.{IsNoLeaf, LeafMisses}
use Rattle.it_certificate.specs.declared.leaf_shortfall.LeafShortfall.{LeafShortfall}
use Rattle.it_dsse.specs.Signed.{message_of}
use Rattle.it_identity.specs.Identity.{IsIdentity, IsShort}
use Rattle.it_identity.specs.declared.identity.Identity.{Identity}
use Rattle.it_issued.specs.Signature.{IsByP256, key_info}
use Rattle.it_log_entry.specs.Place.{place_of}
use Rattle.it_log_entry.specs.declared.entry.LogEntry.{LogEntry}
use Rattle.it_log_entry.specs.declared.logged.Logged.{Logged}
use Rattle.it_log_entry.specs.declared.shortfall.EntryShortfall.{EntryShortfall}
use Rattle.it_trust_root.specs.declared.root.TrustedRoot.{TrustedRoot}
use Rattle.it_vouches.specs.Claim.{Brings, Brought, needs_proof}
use Rattle.it_vouches.specs.EntryMissed.{IsMissedByEntry}
use Rattle.it_vouches.specs.Furthest.{IsFurthest}
use Rattle.it_vouches.specs.IssuerMissed.{IsMissedByLeaf, issuer_place}
use Rattle.it_vouches.specs.Logged.{IsAbout, VouchesBy}
use Rattle.it_vouches.specs.Vouches.{IsAttested}
use Rattle.it_vouches.specs.declared.issuer_shortfall.IssuerShortfall.{IssuerShortfall}
use Rattle.it_vouches.specs.declared.shortfall.Shortfall.{Shortfall}
use Rattle.it_vouches.specs.declared.shortfall.Shortfall.TheVariants as shortfalls

-- its envelope has one signature
abbrev pub HasOneSignature : SigstoreBundle → Type 0
HasOneSignature bundle = length bundle.envelope.signatures ≡ 1

-- its material has the bytes of a certificate
abbrev pub HasCertificate : Material → Type 0
HasCertificate material = (bytes : List ℕ) × (material.certificate ≡ Bytes bytes)

-- it has material, of which this is so
abbrev pub HasMaterial : SigstoreBundle → (Material → Type 0) → Type 0
HasMaterial bundle IsSo = HasOneSignature bundle × MatchOption bundle.material ⊥ IsSo

-- its certificate is no leaf, and misses this condition of one
pub record MissesLeaf (bundle : SigstoreBundle) (missed : LeafShortfall) : Type 0 where
  pub brought : Brought
  pub brings : Brings bundle brought
  pub no_leaf : IsNoLeaf brought.certificate
  pub misses : LeafMisses brought.certificate missed

-- its certificate is a leaf, but the name or the issuer in that is empty or long
pub record MissesIdentity (bundle : SigstoreBundle) : Type 0 where
  pub brought : Brought
  pub leaf : Facts
  pub name : List ℕ
  pub issuer : List ℕ
  pub brings : Brings bundle brought
  pub leaf_is : LeafOf brought.certificate leaf name issuer
  pub not_short : ¬ (IsShort name × IsShort issuer)

-- its certificate is this leaf, which names this identity
pub record Names (bundle : SigstoreBundle) (brought : Brought) (leaf : Facts) (identity : Identity)
    : Type 0 where
  pub brings : Brings bundle brought
  pub leaf_is : LeafOf brought.certificate leaf identity.name identity.issuer
  pub is_identity : IsIdentity identity

-- an entry that it brings is about its signature, and a log of the root vouches by it
pub record IsByLog (root : TrustedRoot) (bundle : SigstoreBundle) (brought : Brought)
    (entry : LogEntry) : Type 0 where
  pub logged : Logged
  pub is_entry : Contains brought.entries (Entry entry)
  pub about : IsAbout bundle.envelope brought.signature brought.certificate logged
  pub by_log : Any (VouchesBy (needs_proof bundle.version) entry logged) root.logs

abbrev pub HasLog : TrustedRoot → SigstoreBundle → Brought → Type 0
HasLog root bundle brought = (entry : LogEntry) × IsByLog root bundle brought entry

-- and at the time of one of these the leaf is attested
pub record HasIssuer (root : TrustedRoot) (bundle : SigstoreBundle) (brought : Brought)
    (leaf : Facts) : Type 0 where
  pub entry : LogEntry
  pub by_log : IsByLog root bundle brought entry
  pub attested : IsAttested root leaf entry.time

-- none of its entries reads
abbrev pub HasNoEntry : Brought → Type 0
HasNoEntry brought = (entry : LogEntry) → ¬ Contains brought.entries (Entry entry)

-- at the time of an entry by which a log vouches, the leaf misses this condition
pub record IsMissedByIssuer (root : TrustedRoot) (bundle : SigstoreBundle) (brought : Brought)
    (leaf : Facts) (missed : IssuerShortfall) : Type 0 where
  pub entry : LogEntry
  pub by_log : IsByLog root bundle brought entry
  pub misses : IsMissedByLeaf root leaf entry.time missed

-- it names an identity, but no entry reads
pub record MissesEntry (bundle : SigstoreBundle) : Type 0 where
  pub brought : Brought
  pub leaf : Facts
  pub identity : Identity
  pub names : Names bundle brought leaf identity
  pub no_entry : HasNoEntry brought

-- no log vouches, and of all entries and logs this is the furthest condition that is missed
pub record MissesLog (root : TrustedRoot) (bundle : SigstoreBundle) (missed : EntryShortfall)
    : Type 0 where
  pub brought : Brought
  pub leaf : Facts
  pub identity : Identity
  pub names : Names bundle brought leaf identity
  pub no_log : ¬ HasLog root bundle brought
  pub furthest : IsFurthest place_of (IsMissedByEntry root bundle brought) missed

-- a log vouches, but the leaf is not attested, and of all entries by which a log vouches and all
-- authorities this is the furthest condition that is missed
pub record MissesIssuer (root : TrustedRoot) (bundle : SigstoreBundle) (missed : IssuerShortfall)
    : Type 0 where
  pub brought : Brought
  pub leaf : Facts
  pub identity : Identity
  pub names : Names bundle brought leaf identity
  pub has_log : HasLog root bundle brought
  pub no_issuer : ¬ HasIssuer root bundle brought leaf
  pub furthest : IsFurthest issuer_place (IsMissedByIssuer root bundle brought leaf) missed

-- the leaf is attested, but its key did not sign the envelope
pub record MissesSignature (root : TrustedRoot) (bundle : SigstoreBundle) : Type 0 where
  pub brought : Brought
  pub leaf : Facts
  pub identity : Identity
  pub names : Names bundle brought leaf identity
  pub has_issuer : HasIssuer root bundle brought leaf
  pub not_signed : ¬ IsByP256 (key_info leaf.curve leaf.coordinates) (message_of bundle.envelope)
      brought.signature

-- a bundle misses this condition, by the trusted root, and none before
abbrev pub Misses : TrustedRoot → SigstoreBundle → Shortfall → Type 0
Misses root bundle (shortfalls.Signatures count) =
    (count ≡ length bundle.envelope.signatures) × (count ≢ 1)
Misses root bundle shortfalls.Material = HasOneSignature bundle × (bundle.material ≡ None)
Misses root bundle (shortfalls.Certificate reason) =
    HasMaterial bundle (λ material. material.certificate ≡ Lacks reason)
Misses root bundle shortfalls.NoEntry =
    HasMaterial bundle (λ material. HasCertificate material × (material.entries ≡ Missing))
Misses root bundle shortfalls.ManyEntries =
    HasMaterial bundle (λ material. HasCertificate material × (material.entries ≡ TooMany))
Misses root bundle (shortfalls.Leaf missed) = MissesLeaf bundle missed
Misses root bundle shortfalls.Identity = MissesIdentity bundle
Misses root bundle shortfalls.Entry = MissesEntry bundle
Misses root bundle (shortfalls.Log missed) = MissesLog root bundle missed
Misses root bundle (shortfalls.Issuer missed) = MissesIssuer root bundle missed
Misses root bundle shortfalls.Signature = MissesSignature root bundle
