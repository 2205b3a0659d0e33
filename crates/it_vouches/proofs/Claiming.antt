-- What a bundle brings, it brings in one way.
use Rattle.std.proofs.Common.{◌≡◌, ℕ, List, [], ◌∷◌, Option, Some, None, MatchOption, map, sym, ◌∙◌}
use Rattle.it_bundle.specs.declared.bundle.SigstoreBundle.{SigstoreBundle}
use Rattle.it_bundle.specs.declared.certificate.BundleCertificate.{BundleCertificate}
use Rattle.it_bundle.specs.declared.certificate.BundleCertificate.TheVariants.{Bytes}
use Rattle.it_bundle.specs.declared.entries.BundleEntries.{BundleEntries}
use Rattle.it_bundle.specs.declared.entries.BundleEntries.TheVariants.{Listed}
use Rattle.it_bundle.specs.declared.listed_entry.ListedEntry.{ListedEntry}
use Rattle.it_bundle.specs.declared.material.Material.{Material}
use Rattle.it_vouches.specs.Claim.{Claims}

same_only : (xs : List (List ℕ)) (x y : List ℕ) → xs ≡ x ∷ [] → xs ≡ y ∷ [] → x ≡ y
same_only xs x y one two = let both : x ∷ [] ≡ y ∷ [] = sym one ∙ two in cc

same_bytes : (certificate : BundleCertificate) (x y : List ℕ) → certificate ≡ Bytes x → certificate ≡ Bytes y → x ≡ y
same_bytes certificate x y one two = let both : Bytes x ≡ Bytes y = sym one ∙ two in cc

same_certificate : (material : Option Material) (x y : List ℕ) → MatchOption material ⊥ (λ m. m.certificate ≡ Bytes x)
    → MatchOption material ⊥ (λ m. m.certificate ≡ Bytes y) → x ≡ y
same_certificate None x y one two = absurd one
same_certificate (Some m) x y one two = same_bytes m.certificate x y one two

same_list : (entries : BundleEntries) (x y : List ListedEntry) → entries ≡ Listed x → entries ≡ Listed y → x ≡ y
same_list entries x y one two = let both : Listed x ≡ Listed y = sym one ∙ two in cc

same_entries : (material : Option Material) (x y : List ListedEntry) → MatchOption material ⊥ (λ m. m.entries ≡ Listed x)
    → MatchOption material ⊥ (λ m. m.entries ≡ Listed y) → x ≡ y
same_entries None x y one two = absurd one
same_entries (Some m) x y one two = same_list m.entries x y one two

pub one_claim : (bundle : SigstoreBundle) (s c : List ℕ) (es : List ListedEntry) (s' c' : List ℕ) (es' : List ListedEntry)
    → Claims bundle s c es → Claims bundle s' c' es' → (s ≡ s') × (c ≡ c') × (es ≡ es')
one_claim bundle s c es s' c' es' one two = (
  same_only (map (λ signature. signature.sig) bundle.envelope.signatures) s s' one.one_signature two.one_signature,
  same_certificate bundle.material c c' one.certificate_is two.certificate_is,
  same_entries bundle.material es es' one.entries_are two.entries_are,
)
