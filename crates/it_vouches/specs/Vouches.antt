-- Whom a bundle vouches for: who signed its envelope, by a trusted root (this profile's choice of
-- what Sigstore's clients verify). Nothing else that the bundle or the root holds has a part in it.
use Rattle.std.specs.Prelude.{◌≡◌, ℕ, List, ◌∷◌, Any, Contains}
use Rattle.it_bundle.specs.declared.bundle.SigstoreBundle.{SigstoreBundle}
use Rattle.it_bundle.specs.declared.listed_entry.ListedEntry.{ListedEntry}
use Rattle.it_bundle.specs.declared.listed_entry.ListedEntry.TheVariants.{Entry}
use Rattle.it_certificate.specs.Certificate.{Facts}
use Rattle.it_certificate.specs.Leaf.{LeafOf}
use Rattle.it_dsse.specs.Signed.{message_of}
use Rattle.it_identity.specs.Identity.{IsIdentity}
use Rattle.it_identity.specs.declared.identity.Identity.{Identity}
use Rattle.it_issued.specs.Issued.{IsIssued, IsUsable}
use Rattle.it_issued.specs.Logged.{IsLogged}
use Rattle.it_issued.specs.Signature.{IsByP256, key_info}
use Rattle.it_log_entry.specs.declared.entry.LogEntry.{LogEntry}
use Rattle.it_log_entry.specs.declared.logged.Logged.{Logged}
use Rattle.it_trust_root.specs.declared.authority.Authority.{Authority}
use Rattle.it_trust_root.specs.declared.root.TrustedRoot.{TrustedRoot}
use Rattle.it_vouches.specs.Claim.{Claims, needs_proof}
use Rattle.it_vouches.specs.Logged.{IsAbout, VouchesBy}

-- at the moment, in seconds, an authority of the root issued the leaf, and a certificate log of the
-- root promised it to log the leaf
pub record IsAttested (root : TrustedRoot) (leaf : Facts) (moment : ℕ) : Type 0 where
  pub authority : Authority
  pub issuer : Facts
  pub others : List Facts
  pub is_authority : Contains root.authorities authority
  pub usable : IsUsable authority (issuer ∷ others)
  pub issued : IsIssued (issuer ∷ others) authority.window leaf moment
  pub promised : IsLogged root.certificate_logs issuer leaf

-- a bundle vouches for an identity: its envelope has one signature; its certificate is a leaf,
-- which names the identity; by one of its entries, a log of the root says that this signature was
-- made with the certificate and logged at the entry's time; at that time an authority of the root
-- issued the leaf; a certificate log of the root promised that authority to log it; and the
-- signature is that of the leaf's key over the pre-authentication encoding of the envelope
pub record Vouches (root : TrustedRoot) (bundle : SigstoreBundle) (identity : Identity)
    : Type 0 where
  pub signature : List ℕ
  pub certificate : List ℕ
  pub entries : List ListedEntry
  pub leaf : Facts
  pub logged : Logged
  pub entry : LogEntry
  pub claims : Claims bundle signature certificate entries
  pub leaf_is : LeafOf certificate leaf identity.name identity.issuer
  pub is_identity : IsIdentity identity
  pub is_entry : Contains entries (Entry entry)
  pub about : IsAbout bundle.envelope signature certificate logged
  pub by_log : Any (VouchesBy (needs_proof bundle.version) entry logged) root.logs
  pub attested : IsAttested root leaf entry.time
  pub signed : IsByP256 (key_info leaf.curve leaf.coordinates) (message_of bundle.envelope)
      signature

-- it does so by an entry of this time, in seconds since 1970
pub record VouchesAt (root : TrustedRoot) (bundle : SigstoreBundle) (identity : Identity)
    (time : ℕ) : Type 0 where
  pub vouches : Vouches root bundle identity
  pub time_is : vouches.entry.time ≡ time
