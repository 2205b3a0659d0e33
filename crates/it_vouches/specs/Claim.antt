-- What a bundle brings (Sigstore's `Bundle`).
use Rattle.std.specs.Prelude.{◌≡◌, ℕ, Bool, true, false, List, [], ◌∷◌, MatchOption, map}
use Rattle.it_bundle.specs.declared.bundle.SigstoreBundle.{SigstoreBundle}
use Rattle.it_bundle.specs.declared.certificate.BundleCertificate.TheVariants.{Bytes}
use Rattle.it_bundle.specs.declared.entries.BundleEntries.TheVariants.{Listed as Entries}
use Rattle.it_bundle.specs.declared.listed_entry.ListedEntry.{ListedEntry}
use Rattle.it_bundle.specs.declared.version.BundleVersion.{BundleVersion}
use Rattle.it_bundle.specs.declared.version.BundleVersion.TheVariants.{V1, V2, V3}

-- a bundle claims that its envelope's one signature was made with this certificate, and has these
-- entries about it
pub record Claims (bundle : SigstoreBundle) (signature certificate : List ℕ)
    (entries : List ListedEntry) : Type 0 where
  pub one_signature : map (λ s. s.sig) bundle.envelope.signatures ≡ signature ∷ []
  pub certificate_is : MatchOption bundle.material ⊥ (λ m. m.certificate ≡ Bytes certificate)
  pub entries_are : MatchOption bundle.material ⊥ (λ m. m.entries ≡ Entries entries)

-- the same, in one
pub record Brought : Type 0 where
  pub signature : List ℕ
  pub certificate : List ℕ
  pub entries : List ListedEntry

abbrev pub Brings : SigstoreBundle → Brought → Type 0
Brings bundle brought = Claims bundle brought.signature brought.certificate brought.entries

-- whether an entry of a bundle of this version needs an inclusion proof
abbrev pub needs_proof : BundleVersion → Bool
needs_proof V1 = false
needs_proof V2 = true
needs_proof V3 = true
