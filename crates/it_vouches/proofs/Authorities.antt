-- What a leaf misses with an authority, as it was read.
use Rattle.std.proofs.Common.{◌≡◌, ℕ, List, [], ◌∷◌, map, drop, Some, None, slice_get, ap, sym, subst}
use Rattle.it_certificate.specs.Certificate.{Facts, facts_of}
use Rattle.it_certificate.specs.declared.certificate.Certificate.{Certificate}
use Rattle.it_issued.specs.Issued.{IsIssued}
use Rattle.it_issued.specs.IssueMisses.{OfIssuer}
use Rattle.it_issued.specs.Logged.{IsLogged}
use Rattle.it_issued.specs.LogMisses.{IsLogShortfall}
use Rattle.it_issued.specs.declared.authority.UsableAuthority.{UsableAuthority}
use Rattle.it_issued.specs.declared.shortfall.IssueShortfall.TheVariants.{Name}
use Rattle.it_issued.specs.declared.shortfall.LogShortfall.{LogShortfall}
use Rattle.it_issued.proofs.IssueMissing.{below_name, missed, of_first, of_none, one_issue_missed}
use Rattle.it_issued.proofs.Issuing.{first_facts}
use Rattle.it_issued.proofs.LogMissing.{one_log_missed}
use Rattle.it_log.specs.declared.window.Window.{Window}
use Rattle.it_trust_root.specs.declared.root_log.RootLog.{RootLog}
use Rattle.it_vouches.specs.IssuerMissed.{MissesWith}
use Rattle.it_vouches.specs.declared.issuer_shortfall.IssuerShortfall.{IssuerShortfall}
use Rattle.it_vouches.specs.declared.issuer_shortfall.IssuerShortfall.TheVariants.{Issue, Log}
use Rattle.it_vouches.specs.inside.Attested.{IsIssuedBy, IsMissedBy}

-- ---- by the certificates of an authority
-- one that issued the leaf, with a promise, misses nothing
not_logged : (logs : List RootLog) (leaf : Facts) (s : LogShortfall) (issuer : Facts) (others certificates : List Facts)
    → certificates ≡ issuer ∷ others → OfIssuer (λ i. IsLogShortfall logs i leaf (Some s)) certificates → IsLogged logs issuer leaf → ⊥
not_logged logs leaf s issuer others certificates are of is = (subst (OfIssuer (λ i. IsLogShortfall logs i leaf (Some s))) are of).0 is

none_issued_with : (logs : List RootLog) (leaf : Facts) (moment : ℕ) (window : Window) (certificates : List Facts) (s : IssuerShortfall)
    → MissesWith logs leaf moment window certificates s → (issuer : Facts) (others : List Facts) → certificates ≡ issuer ∷ others
    → IsIssued (issuer ∷ others) window leaf moment → IsLogged logs issuer leaf → ⊥
none_issued_with logs leaf moment window certificates (Issue s) misses issuer others are issued promised =
    misses.0 (subst (λ (cs : List Facts). IsIssued cs window leaf moment) (sym are) issued)
none_issued_with logs leaf moment window certificates (Log s) misses issuer others are issued promised =
    not_logged logs leaf s issuer others certificates are misses.1 promised

one_logged : (logs : List RootLog) (leaf : Facts) (s t : LogShortfall) (certificates : List Facts)
    → OfIssuer (λ i. IsLogShortfall logs i leaf (Some s)) certificates → OfIssuer (λ i. IsLogShortfall logs i leaf (Some t)) certificates → s ≡ t
one_logged logs leaf s t [] one two = absurd one
one_logged logs leaf s t (issuer ∷ others) one two = one_log_missed logs issuer leaf s t one.1 two.1

-- at most one condition is the first
one_missed_with : (logs : List RootLog) (leaf : Facts) (moment : ℕ) (window : Window) (certificates : List Facts) (s t : IssuerShortfall)
    → MissesWith logs leaf moment window certificates s → MissesWith logs leaf moment window certificates t → s ≡ t
one_missed_with logs leaf moment window certificates (Issue s) (Issue t) one two =
    ap Issue (one_issue_missed certificates window leaf moment s t one.1 two.1)
one_missed_with logs leaf moment window certificates (Issue s) (Log t) one two = absurd (one.0 two.0)
one_missed_with logs leaf moment window certificates (Log s) (Issue t) one two = absurd (two.0 one.0)
one_missed_with logs leaf moment window certificates (Log s) (Log t) one two = ap Log (one_logged logs leaf s t certificates one.1 two.1)

-- ---- by what was read of it
pub none_issued_by : (logs : List RootLog) (leaf : Facts) (moment : ℕ) (a : UsableAuthority) (s : IssuerShortfall)
    → IsMissedBy logs leaf moment a s → IsIssuedBy logs leaf moment a → ⊥
none_issued_by logs leaf moment a s misses by =
    none_issued_with logs leaf moment a.window (map facts_of a.certificates.items) s misses by.issuer by.others by.certificates_are
    by.issued by.promised

pub one_missed_by : (logs : List RootLog) (leaf : Facts) (moment : ℕ) (a : UsableAuthority) (s t : IssuerShortfall)
    → IsMissedBy logs leaf moment a s → IsMissedBy logs leaf moment a t → s ≡ t
one_missed_by logs leaf moment a s t one two =
    one_missed_with logs leaf moment a.window (map facts_of a.certificates.items) s t one two

pub no_certificate : (logs : List RootLog) (leaf : Facts) (moment : ℕ) (a : UsableAuthority) → None ≡ slice_get a.certificates.items 0
    → IsMissedBy logs leaf moment a (Issue Name)
no_certificate logs leaf moment a none =
    missed (map facts_of a.certificates.items) a.window leaf moment Name (below_name (map facts_of a.certificates.items) a.window leaf moment)
    (of_none (λ issuer. leaf.parts.issuer ≡ issuer.parts.subject) a.certificates.items none)

pub log_missed_by : (logs : List RootLog) (leaf : Facts) (moment : ℕ) (a : UsableAuthority) (x : Certificate) (s : LogShortfall)
    → Some x ≡ slice_get a.certificates.items 0 → IsIssued (map facts_of a.certificates.items) a.window leaf moment
    → IsLogShortfall logs (facts_of x) leaf (Some s) → IsMissedBy logs leaf moment a (Log s)
log_missed_by logs leaf moment a x s first issued misses =
    (issued, (of_first (λ i. IsLogShortfall logs i leaf (Some s)) a.certificates.items x first).1 misses)

pub issued_by_is : (logs : List RootLog) (leaf : Facts) (moment : ℕ) (a : UsableAuthority) (x : Certificate)
    → Some x ≡ slice_get a.certificates.items 0 → IsIssued (map facts_of a.certificates.items) a.window leaf moment
    → IsLogged logs (facts_of x) leaf → IsIssuedBy logs leaf moment a
issued_by_is logs leaf moment a x first issued promised =
    let are = first_facts a.certificates.items x first in
    record {
      issuer = facts_of x;
      others = map facts_of (drop 1 a.certificates.items);
      certificates_are = are;
      issued = subst (λ (fs : List Facts). IsIssued fs a.window leaf moment) are issued;
      promised = promised;
    }
