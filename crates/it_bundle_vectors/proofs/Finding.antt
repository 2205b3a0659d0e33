-- What is found of a vector, by what was read of it.
use Rattle.std.proofs.Common.{◌≡◌, ◌↔◌, Bool, true, false, IsTrue, refl, sym, subst, ◌∙◌, ap}
use Rattle.it_bundle.specs.Bundle.{BundleOf}
use Rattle.it_bundle.specs.declared.bundle.SigstoreBundle.{SigstoreBundle}
use Rattle.it_bundle.proofs.Same.{bundle_same}
use Rattle.it_identity.specs.declared.identity.Identity.{Identity}
use Rattle.it_issued.proofs.Tests.{refused}
use Rattle.it_trust_root.specs.Root.{RootOf}
use Rattle.it_trust_root.specs.declared.root.TrustedRoot.{TrustedRoot}
use Rattle.it_trust_root.proofs.Same.{one_root}
use Rattle.it_vouches.specs.Vouches.{Vouches}
use Rattle.it_vouches.proofs.Vouching.{vouches_same}
use Rattle.it_bundle_vectors.specs.Agreement.{Agrees, IsVouchedFor}
use Rattle.it_bundle_vectors.specs.declared.vector.Vector.{Vector}

pub no_root : (v : Vector) → ((root : TrustedRoot) → RootOf v.root root → ⊥) → IsTrue false ↔ IsVouchedFor v
no_root v none = refused (IsVouchedFor v) (λ is. none is.root is.root_is)

pub no_bundle : (v : Vector) → ((bundle : SigstoreBundle) → BundleOf v.line bundle → ⊥) → IsTrue false ↔ IsVouchedFor v
no_bundle v none = refused (IsVouchedFor v) (λ is. none is.bundle is.bundle_is)

-- what vouches is what was read
as_read : (v : Vector) (root : TrustedRoot) (bundle : SigstoreBundle) → RootOf v.root root → BundleOf v.line bundle
    → (is : IsVouchedFor v) → Vouches root bundle is.identity
as_read v root bundle root_is bundle_is is =
    let whole = one_root v.root is.root root is.root_is root_is in
    let same = bundle_same v.line is.bundle bundle is.bundle_is bundle_is in
    subst (λ (b : SigstoreBundle). Vouches root b is.identity) same
    (subst (λ (r : TrustedRoot). Vouches r is.bundle is.identity) whole is.vouches)

pub for_none : (v : Vector) (root : TrustedRoot) (bundle : SigstoreBundle) → RootOf v.root root → BundleOf v.line bundle
    → ((identity : Identity) → Vouches root bundle identity → ⊥) → IsTrue false ↔ IsVouchedFor v
for_none v root bundle root_is bundle_is none =
    refused (IsVouchedFor v) (λ is. none is.identity (as_read v root bundle root_is bundle_is is))

pub for_one : (v : Vector) (root : TrustedRoot) (bundle : SigstoreBundle) (identity : Identity) (b : Bool) → RootOf v.root root
    → BundleOf v.line bundle → Vouches root bundle identity
    → IsTrue b ↔ ((identity.name ≡ v.identity) × (identity.issuer ≡ v.issuer)) → IsTrue b ↔ IsVouchedFor v
for_one v root bundle identity b root_is bundle_is vouches iff = (
  λ t.
      let names = iff.0 t in
      record {
        root = root;
        bundle = bundle;
        identity = identity;
        root_is = root_is;
        bundle_is = bundle_is;
        name_is = names.0;
        issuer_is = names.1;
        vouches = vouches;
      },
  λ is.
      let same = vouches_same root bundle identity is.identity vouches (as_read v root bundle root_is bundle_is is) in
      iff.1 (ap (λ (i : Identity). i.name) same ∙ is.name_is, ap (λ (i : Identity). i.issuer) same ∙ is.issuer_is),
)

-- two tests of one fact
same_test : (P : Type 0) (a b : Bool) → IsTrue a ↔ P → IsTrue b ↔ P → a ≡ b
same_test P true true one two = refl
same_test P true false one two = sym (two.1 (one.0 refl))
same_test P false true one two = one.1 (two.0 refl)
same_test P false false one two = refl

pub agrees_same : (v : Vector) (b : Bool) → IsTrue b ↔ IsVouchedFor v → b ≡ v.vouches → Agrees v
agrees_same v b iff same = subst (λ (x : Bool). IsTrue x ↔ IsVouchedFor v) same iff

pub same_agrees : (v : Vector) (b : Bool) → IsTrue b ↔ IsVouchedFor v → Agrees v → b ≡ v.vouches
same_agrees v b iff agrees = same_test (IsVouchedFor v) b v.vouches iff agrees
