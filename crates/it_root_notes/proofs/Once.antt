-- An authority misses at most one condition.
use Rattle.std.proofs.Common.{◌≡◌, ◌∙◌, ℕ, zero, suc, List, [], ◌∷◌, ap, refl, subst, sym}
use Rattle.it_certificate.proofs.OneIssuing.{not_issuing, one_issuing_shortfall}
use Rattle.it_certificate.proofs.OneShortfall.{one_shortfall}
use Rattle.it_certificate.specs.Authority.{IsSignedBy, MayIssue}
use Rattle.it_certificate.specs.Certificate.{Facts}
use Rattle.it_certificate.specs.declared.issuing.IssuingShortfall.{IssuingShortfall}
use Rattle.it_certificate.specs.declared.shortfall.CertificateShortfall.{CertificateShortfall}
use Rattle.it_issued.proofs.Reading.{one_way}
use Rattle.it_issued.specs.Signature.{Signs}
use Rattle.it_root_notes.proofs.Chains.{names, none_barred}
use Rattle.it_root_notes.proofs.Standing.{none_misses}
use Rattle.it_root_notes.proofs.Unread.{none_unread, not_read}
use Rattle.it_root_notes.specs.AuthorityMisses.{ChainMisses, IsBarred, IsRead, IsUnread, Names}
use Rattle.it_root_notes.specs.Laws.{MissesOnce}
use Rattle.it_root_notes.specs.Missing.{MissesFrom, MissesNext}
use Rattle.it_root_notes.specs.declared.shortfall.AuthorityShortfall.TheVariants.{Unread, Chain}
use Rattle.it_root_notes.specs.declared.shortfall.ChainShortfall.{ChainShortfall}
use Rattle.it_root_notes.specs.declared.shortfall.ChainShortfall.TheVariants.{Empty, OtherIssuer}
use Rattle.it_root_notes.specs.declared.shortfall.ChainShortfall.TheVariants.{MayNotIssue, Unsigned}

-- ---- one place, and one condition there, where an element misses at most one
module _ {X R : Type 0} (Meets : ℕ → X → Type 0) (Misses : R → ℕ → X → Type 0)
    (apart : (number : ℕ) (x : X) (r : R) → Misses r number x → ¬ Meets number x)
    (once : (number : ℕ) (x : X) (r s : R) → Misses r number x → Misses s number x → r ≡ s) where
  from_once : (number : ℕ) (xs : List X) (m n : ℕ) (r s : R)
      → MissesFrom Meets (Misses r) number xs m → MissesFrom Meets (Misses s) number xs n
      → (m ≡ n) × (r ≡ s)
  from_once number [] m n r s one two = absurd one
  from_once number (x ∷ xs) zero zero r s one two = (refl, once number x r s one two)
  from_once number (x ∷ xs) zero (suc n) r s one two = absurd (apart number x r one two.0)
  from_once number (x ∷ xs) (suc m) zero r s one two = absurd (apart number x s two one.0)
  from_once number (x ∷ xs) (suc m) (suc n) r s one two =
      let same = from_once (suc number) xs m n r s one.1 two.1 in (ap suc same.0, same.1)

module _ (Meets : Facts → Facts → Type 0) where
  next_once : (fs : List Facts) (m n : ℕ) → MissesNext Meets fs m → MissesNext Meets fs n → m ≡ n
  next_once [] m n one two = absurd one
  next_once (f ∷ []) m n one two = absurd one
  next_once (f ∷ g ∷ fs) zero zero one two = refl
  next_once (f ∷ g ∷ fs) zero (suc n) one two = absurd (one two.0)
  next_once (f ∷ g ∷ fs) (suc m) zero one two = absurd (two one.0)
  next_once (f ∷ g ∷ fs) (suc m) (suc n) one two = ap suc (next_once (g ∷ fs) m n one.1 two.1)

-- ---- one condition
none_at : (fs : List Facts) (t : ChainShortfall) → fs ≡ [] → ChainMisses fs t → Empty ≡ t
none_at fs Empty none misses = refl
none_at fs (OtherIssuer n) none misses =
    absurd (subst (λ (l : List Facts). MissesNext Names l n) none misses)
none_at fs (MayNotIssue n r) none misses =
    absurd (subst (λ (l : List Facts). MissesFrom MayIssue (IsBarred r) 0 l n) none misses.1)
none_at fs (Unsigned n) none misses = absurd (misses.0.some none)

chain_once : (fs : List Facts) (s t : ChainShortfall) → ChainMisses fs s → ChainMisses fs t → s ≡ t
chain_once fs Empty t one two = none_at fs t one two
chain_once fs s Empty one two = sym (none_at fs s two one)
chain_once fs (OtherIssuer m) (OtherIssuer n) one two = ap OtherIssuer (next_once Names fs m n one two)
chain_once fs (OtherIssuer m) (MayNotIssue n r) one two =
    absurd (none_misses Names fs m (names fs two.0) one)
chain_once fs (OtherIssuer m) (Unsigned n) one two =
    absurd (none_misses Names fs m (names fs two.0.linked) one)
chain_once fs (MayNotIssue m r) (OtherIssuer n) one two =
    absurd (none_misses Names fs n (names fs one.0) two)
chain_once fs (MayNotIssue m r) (MayNotIssue n s) one two =
    let same =
    from_once MayIssue IsBarred (λ number f r. not_issuing number f r)
    (λ number f. one_issuing_shortfall number f) 0 fs m n r s one.1 two.1 in
    ap (λ (k : ℕ). MayNotIssue k r) same.0
    ∙ ap (λ (x : IssuingShortfall). MayNotIssue n x) same.1
chain_once fs (MayNotIssue m r) (Unsigned n) one two =
    absurd (none_barred r 0 fs m two.0.may_issue one.1)
chain_once fs (Unsigned m) (OtherIssuer n) one two =
    absurd (none_misses Names fs n (names fs one.0.linked) two)
chain_once fs (Unsigned m) (MayNotIssue n r) one two =
    absurd (none_barred r 0 fs n one.0.may_issue two.1)
chain_once fs (Unsigned m) (Unsigned n) one two =
    ap Unsigned (next_once (IsSignedBy Signs) fs m n one.1 two.1)

pub misses_once : MissesOnce
misses_once authority (Unread m r) (Unread n s) one two =
    let same =
    from_once IsRead IsUnread not_read (λ number bytes. one_shortfall bytes) 0
    authority.certificates m n r s one two in
    ap (λ (k : ℕ). Unread k r) same.0 ∙ ap (λ (x : CertificateShortfall). Unread n x) same.1
misses_once authority (Unread m r) (Chain t) one two =
    absurd (none_unread r 0 authority.certificates two.certificates m two.read one)
misses_once authority (Chain s) (Unread n r) one two =
    absurd (none_unread r 0 authority.certificates one.certificates n one.read two)
misses_once authority (Chain s) (Chain t) one two =
    let same = one_way authority.certificates two.certificates one.certificates two.read one.read in
    ap Chain (chain_once one.certificates s t one.misses
    (subst (λ (fs : List Facts). ChainMisses fs t) same two.misses))
