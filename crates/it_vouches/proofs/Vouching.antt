-- Whom a bundle vouches for, by what is read of it.
use Rattle.std.proofs.Common.{◌≡◌, ℕ, List, sym, subst, ◌∙◌}
use Rattle.std.specs.List.{Contains}
use Rattle.it_bundle.specs.declared.bundle.SigstoreBundle.{SigstoreBundle}
use Rattle.it_bundle.specs.declared.listed_entry.ListedEntry.{ListedEntry}
use Rattle.it_bundle.specs.declared.listed_entry.ListedEntry.TheVariants.{Entry}
use Rattle.it_certificate.specs.Certificate.{Facts}
use Rattle.it_certificate.specs.Leaf.{LeafOf}
use Rattle.it_certificate.proofs.OneLeaf.{one_leaf}
use Rattle.it_dsse.specs.Signed.{message_of}
use Rattle.it_identity.specs.Identity.{IsIdentity}
use Rattle.it_identity.specs.declared.identity.Identity.{Identity}
use Rattle.it_issued.specs.Signature.{IsByP256, key_info}
use Rattle.it_log_entry.specs.declared.logged.Logged.{Logged}
use Rattle.it_trust_root.specs.declared.root.TrustedRoot.{TrustedRoot}
use Rattle.it_vouches.specs.Claim.{Brings, Brought}
use Rattle.it_vouches.specs.Logged.{IsAbout}
use Rattle.it_vouches.specs.Misses.{HasIssuer, IsByLog, Names}
use Rattle.it_vouches.specs.Vouches.{IsAttested, Vouches, VouchesAt}
use Rattle.it_vouches.specs.inside.Shows.{HasIssuerAt}
use Rattle.it_vouches.proofs.Claiming.{one_claim}
use Rattle.it_vouches.proofs.SameLogged.{IsSame}

-- the same, in terms of what was read
pub record IsSeen (root : TrustedRoot) (bundle : SigstoreBundle) (b : Brought) (f : Facts) (identity : Identity) : Type 0 where
  pub leaf_is : LeafOf b.certificate f identity.name identity.issuer
  pub is_identity : IsIdentity identity
  pub has_issuer : HasIssuer root bundle b f
  pub signed : IsByP256 (key_info f.curve f.coordinates) (message_of bundle.envelope) b.signature

-- the leaf, before it is read
pub record HasLeaf (c : List ℕ) (identity : Identity) : Type 0 where
  pub leaf : Facts
  pub is : LeafOf c leaf identity.name identity.issuer

pub leaf_of : (root : TrustedRoot) (bundle : SigstoreBundle) (b : Brought) (identity : Identity) → Brings bundle b
    → Vouches root bundle identity → HasLeaf b.certificate identity
leaf_of root bundle b identity brings v =
    let same = one_claim bundle v.signature v.certificate v.entries b.signature b.certificate b.entries v.claims brings in
    record { leaf = v.leaf; is = subst (λ (c : List ℕ). LeafOf c v.leaf identity.name identity.issuer) same.1 v.leaf_is }

by_log_of : (root : TrustedRoot) (bundle : SigstoreBundle) (b : Brought) (identity : Identity) → Brings bundle b
    → (v : Vouches root bundle identity) → IsByLog root bundle b v.entry
by_log_of root bundle b identity brings v =
    let same = one_claim bundle v.signature v.certificate v.entries b.signature b.certificate b.entries v.claims brings in
    record {
      logged = v.logged;
      is_entry = subst (λ (l : List ListedEntry). Contains l (Entry v.entry)) same.2 v.is_entry;
      about = subst (λ (s : List ℕ). IsAbout bundle.envelope s b.certificate v.logged) same.0
          (subst (λ (c : List ℕ). IsAbout bundle.envelope v.signature c v.logged) same.1 v.about);
      by_log = v.by_log;
    }

pub seen : (root : TrustedRoot) (bundle : SigstoreBundle) (b : Brought) (f : Facts) (name issuer : List ℕ) (identity : Identity)
    → Brings bundle b → LeafOf b.certificate f name issuer → Vouches root bundle identity → IsSeen root bundle b f identity
seen root bundle b f name issuer identity brings leaf_is v =
    let same = one_claim bundle v.signature v.certificate v.entries b.signature b.certificate b.entries v.claims brings in
    let leaf = subst (λ (c : List ℕ). LeafOf c v.leaf identity.name identity.issuer) same.1 v.leaf_is in
    let facts : v.leaf ≡ f = (one_leaf b.certificate v.leaf f identity.name identity.issuer name issuer leaf leaf_is).0 in
    record {
      leaf_is = subst (λ (g : Facts). LeafOf b.certificate g identity.name identity.issuer) facts leaf;
      is_identity = v.is_identity;
      has_issuer = record {
        entry = v.entry;
        by_log = by_log_of root bundle b identity brings v;
        attested = subst (λ (g : Facts). IsAttested root g v.entry.time) facts v.attested;
      };
      signed = subst (λ (t : List ℕ). IsByP256 (key_info f.curve f.coordinates) (message_of bundle.envelope) t) same.0
          (subst (λ (g : Facts). IsByP256 (key_info g.curve g.coordinates) (message_of bundle.envelope) v.signature) facts v.signed);
    }

-- and the other way round
pub vouches_is : (root : TrustedRoot) (bundle : SigstoreBundle) (b : Brought) (f : Facts) (identity : Identity) → Names bundle b f identity
    → HasIssuer root bundle b f → IsByP256 (key_info f.curve f.coordinates) (message_of bundle.envelope) b.signature
    → Vouches root bundle identity
vouches_is root bundle b f identity names has signed = record {
  signature = b.signature;
  certificate = b.certificate;
  entries = b.entries;
  leaf = f;
  logged = has.by_log.logged;
  entry = has.entry;
  claims = names.brings;
  leaf_is = names.leaf_is;
  is_identity = names.is_identity;
  is_entry = has.by_log.is_entry;
  about = has.by_log.about;
  by_log = has.by_log.by_log;
  attested = has.attested;
  signed = signed;
}

pub vouches_then : (root : TrustedRoot) (bundle : SigstoreBundle) (b : Brought) (f : Facts) (identity : Identity) (time : ℕ)
    → Names bundle b f identity → HasIssuerAt root bundle b f time
    → IsByP256 (key_info f.curve f.coordinates) (message_of bundle.envelope) b.signature → VouchesAt root bundle identity time
unfolding vouches_is
vouches_then root bundle b f identity time names has signed =
    record { vouches = vouches_is root bundle b f identity names has.has_issuer signed; time_is = has.time_is }

-- what is read names what it is read of
pub names_of : (bundle : SigstoreBundle) (b : Brought) (f : Facts) (name issuer : List ℕ) (identity : Identity) → Brings bundle b
    → LeafOf b.certificate f name issuer → (identity.name ≡ name) × (identity.issuer ≡ issuer) × IsIdentity identity
    → Names bundle b f identity
names_of bundle b f name issuer identity brings leaf_is names = record {
  brings = brings;
  leaf_is = subst (λ (n : List ℕ). LeafOf b.certificate f n identity.issuer) (sym names.0)
      (subst (λ (n : List ℕ). LeafOf b.certificate f name n) (sym names.1) leaf_is);
  is_identity = names.2;
}

-- what is logged may lie anywhere
pub about_same : (bundle : SigstoreBundle) (s c : List ℕ) (x y : Logged) → IsAbout bundle.envelope s c x → IsAbout bundle.envelope s c y → IsSame x y
about_same bundle s c x y one two = record {
  payload = one.payload ∙ sym two.payload;
  payload_type = one.payload_type ∙ sym two.payload_type;
  signature = one.signature_is ∙ sym two.signature_is;
  certificate = one.certificate_is ∙ sym two.certificate_is;
}

-- at most one identity
pub vouches_same : (root : TrustedRoot) (bundle : SigstoreBundle) (x y : Identity) → Vouches root bundle x → Vouches root bundle y → x ≡ y
vouches_same root bundle x y one two =
    let b : Brought = record { signature = one.signature; certificate = one.certificate; entries = one.entries } in
    let other = leaf_of root bundle b y one.claims two in
    let same = one_leaf one.certificate one.leaf other.leaf x.name x.issuer y.name y.issuer one.leaf_is other.is in
    let name = same.1 in
    let issuer = same.2 in
    λ i. record { name = name i; issuer = issuer i }
