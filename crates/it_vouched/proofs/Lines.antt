-- What lines vouch for, line by line.
use Rattle.std.proofs.Common.{◌≡◌, ◌∙◌, ℕ, List, [], ◌∷◌, All, get_or, map, sym, subst, ap, refl}
use Rattle.std.proofs.Common.{Option, Some, None, MatchOption}
use Rattle.std.specs.List.{Contains}
use Rattle.std.proofs.lemmas.List.Elements.{Contains-get_or}
use Rattle.it_base.specs.Finds.{Finds}
use Rattle.it_bundle.specs.Bundle.{BundleOf}
use Rattle.it_bundle.specs.declared.bundle.SigstoreBundle.{SigstoreBundle}
use Rattle.it_bundle.proofs.Same.{bundle_same}
use Rattle.it_dsse.specs.Signed.{message_of}
use Rattle.it_identity.specs.Identity.{IsIdentity}
use Rattle.it_identity.specs.Name.{number_of}
use Rattle.it_identity.specs.declared.identity.Identity.{Identity}
use Rattle.it_trust_root.specs.declared.root.TrustedRoot.{TrustedRoot}
use Rattle.it_vouches.specs.Vouches.{Vouches}
use Rattle.it_vouches.proofs.Found.{IsAmong, IsOf, found_of, of_found}
use Rattle.it_vouches.proofs.Loops.{any_of_contains}
use Rattle.it_vouches.proofs.Vouching.{vouches_same}
use Rattle.it_vouched.specs.Line.{AreVouched, IsVouched, LineVouches, VouchesForNone}
use Rattle.it_vouched.specs.declared.vouched.Vouched.{Vouched}
use Rattle.it_vouched.proofs.Saying.{IsValid, Says}

-- a line vouches for one identity, with one message and one signature
pub record IsSame (i j : Identity) (m n s t : List ℕ) : Type 0 where
  pub identity : i ≡ j
  pub message : m ≡ n
  pub signature : s ≡ t

same_only : (xs : List (List ℕ)) (x y : List ℕ) → xs ≡ x ∷ [] → xs ≡ y ∷ [] → x ≡ y
same_only xs x y one two = let both : x ∷ [] ≡ y ∷ [] = sym one ∙ two in cc

pub line_same : (root : TrustedRoot) (line : List ℕ) (i j : Identity) (m n s t : List ℕ) → LineVouches root line i m s
    → LineVouches root line j n t → IsSame i j m n s t
line_same root line i j m n s t one two =
    let same = bundle_same line one.bundle two.bundle one.bundle_is two.bundle_is in
    record {
      identity = vouches_same root two.bundle i j (subst (λ (b : SigstoreBundle). Vouches root b i) same one.vouches) two.vouches;
      message = one.message_is ∙ ap (λ (b : SigstoreBundle). message_of b.envelope) same ∙ sym two.message_is;
      signature = same_only (map (λ x. x.sig) two.bundle.envelope.signatures) s t
          (subst (λ (b : SigstoreBundle). map (λ x. x.sig) b.envelope.signatures ≡ s ∷ []) same one.one_signature) two.one_signature;
    }

-- a line that vouches has an element, and each element has a line
element_of : (root : TrustedRoot) (lines : List (List ℕ)) (vouched : List Vouched) (line : List ℕ) (i : Identity) (m s : List ℕ)
    → AreVouched root lines vouched → Contains lines line → LineVouches root line i m s → IsAmong (IsVouched root) line vouched
element_of root lines vouched line i m s are among is =
    let here : Vouched = record { identity = i; message = m; signature = s; time = is.vouches.entry.time } in
    of_found (VouchesForNone root) (IsVouched root) lines vouched line are among (λ none. none here (record {
      line_vouches = is;
      by_entry = record { vouches = is.vouches; time_is = refl };
    }))

pub line_of : (root : TrustedRoot) (lines : List (List ℕ)) (vouched : List Vouched) (v : Vouched) → AreVouched root lines vouched
    → Contains vouched v → IsOf (IsVouched root) lines v
line_of root lines vouched v are among = found_of (VouchesForNone root) (IsVouched root) lines vouched v are among

pub each_identity : (root : TrustedRoot) (lines : List (List ℕ)) (vouched : List Vouched) → AreVouched root lines vouched
    → All (λ v. IsIdentity v.identity) vouched
each_identity root lines vouched are k d below =
    let of = line_of root lines vouched (get_or vouched k d) are (Contains-get_or vouched k d below) in
    of.is.line_vouches.vouches.is_identity

-- what a line vouches for is valid
pub valid_where : (root : TrustedRoot) (lines : List (List ℕ)) (vouched : List Vouched) (line : List ℕ) (i : Identity) (m s : List ℕ)
    → AreVouched root lines vouched → Contains lines line → LineVouches root line i m s → IsValid vouched (number_of i) m s
valid_where root lines vouched line i m s are among is =
    let element = element_of root lines vouched line i m s are among is in
    let v = element.found in
    let same = line_same root line i v.identity m v.message s v.signature is element.is.line_vouches in
    any_of_contains (Says (number_of i) m s) vouched v element.among (record {
      number_is = ap number_of (sym same.identity);
      message_is = sym same.message;
      signature_is = sym same.signature;
    })

-- what reading a line says
pub as_found : (root : TrustedRoot) (line : List ℕ) (found : Option Vouched) → Finds (IsVouched root line) found
    → MatchOption found (VouchesForNone root line) (λ v. IsVouched root line v)
as_found root line None finds = finds
as_found root line (Some v) finds = finds

-- ---- reading a line
pub no_bundle : (root : TrustedRoot) (line : List ℕ) → ((b : SigstoreBundle) → BundleOf line b → ⊥) → VouchesForNone root line
no_bundle root line none v is = none is.line_vouches.bundle is.line_vouches.bundle_is

pub for_none : (root : TrustedRoot) (line : List ℕ) (bundle : SigstoreBundle) → BundleOf line bundle
    → ((i : Identity) → Vouches root bundle i → ⊥) → VouchesForNone root line
for_none root line bundle bundle_is none v is =
    let by = is.line_vouches in
    let same = bundle_same line by.bundle bundle by.bundle_is bundle_is in
    none v.identity (subst (λ (b : SigstoreBundle). Vouches root b v.identity) same by.vouches)

pub no_signature : (root : TrustedRoot) (line : List ℕ) (bundle : SigstoreBundle) (identity : Identity) → Vouches root bundle identity
    → ((bytes : List ℕ) → map (λ x. x.sig) bundle.envelope.signatures ≡ bytes ∷ [] → ⊥) → VouchesForNone root line
no_signature root line bundle identity vouches none = absurd (none vouches.signature vouches.claims.one_signature)
