-- What certificates lack to be a chain.
use Rattle.std.proofs.Common.{◌≡◌, ◌≢◌, ◌+◌, ◌<◌, ℕ, zero, suc, List, [], ◌∷◌, arith}
use Rattle.std.proofs.Common.{add-one, get_or, length, map, subst, take}
use Rattle.it_certificate.proofs.OneIssuing.{not_issuing}
use Rattle.it_certificate.specs.Authority.{AreLinked, AreSignedInTurn, IsSignedBy}
use Rattle.it_certificate.specs.Authority.{MayIssue, MayIssueFrom}
use Rattle.it_certificate.specs.Certificate.{Facts, facts_of}
use Rattle.it_certificate.specs.declared.certificate.Certificate.{Certificate}
use Rattle.it_certificate.specs.declared.issuing.IssuingShortfall.{IssuingShortfall}
use Rattle.it_issued.specs.Signature.{Signs}
use Rattle.it_root_notes.specs.AuthorityMisses.{IsBarred, Names}
use Rattle.it_root_notes.specs.Missing.{MissesFrom}
use Rattle.it_root_notes.proofs.Standing.{MeetNext}

-- ---- whether there are some
pub some_facts : (xs : List Certificate) → 0 < length xs → map facts_of xs ≢ []
some_facts [] some none = omega arith
some_facts (x ∷ xs) some none = cc

-- ---- each with the next one
pub linked : (fs : List Facts) → MeetNext Names fs → AreLinked fs
linked [] meet = tt
linked (f ∷ []) meet = tt
linked (f ∷ g ∷ fs) meet = (meet.0, linked (g ∷ fs) meet.1)

pub names : (fs : List Facts) → AreLinked fs → MeetNext Names fs
names [] all = tt
names (f ∷ []) all = tt
names (f ∷ g ∷ fs) all = (all.0, names (g ∷ fs) all.1)

pub in_turn : (fs : List Facts) → MeetNext (IsSignedBy Signs) fs → AreSignedInTurn Signs fs
in_turn [] meet = tt
in_turn (f ∷ []) meet = tt
in_turn (f ∷ g ∷ fs) meet = (meet.0, in_turn (g ∷ fs) meet.1)

pub signed : (fs : List Facts) → AreSignedInTurn Signs fs → MeetNext (IsSignedBy Signs) fs
signed [] all = tt
signed (f ∷ []) all = tt
signed (f ∷ g ∷ fs) all = (all.0, signed (g ∷ fs) all.1)

-- ---- who may issue others
pub none_barred : (reason : IssuingShortfall) (number : ℕ) (fs : List Facts) (n : ℕ)
    → MayIssueFrom number fs → ¬ MissesFrom MayIssue (IsBarred reason) number fs n
none_barred reason number [] n all = λ misses. misses
none_barred reason number (f ∷ fs) zero all = λ misses. not_issuing number f reason misses all.0
none_barred reason number (f ∷ fs) (suc n) all = λ misses.
    none_barred reason (suc number) fs n all.1 misses.1

-- the first ones
abbrev pub front : ℕ → List Certificate → List Facts
front n xs = map facts_of (take n xs)

barred_at : (reason : IssuingShortfall) (number i place : ℕ) (xs : List Certificate)
    (x : Certificate) → place ≡ number + i → i < length xs → x ≡ get_or xs i x
    → MayIssueFrom number (front i xs) → IsBarred reason place (facts_of x)
    → MissesFrom MayIssue (IsBarred reason) number (map facts_of xs) i
barred_at reason number i place [] x here below is before misses = absurd (omega arith)
barred_at reason number zero place (y ∷ xs) x here below is before misses =
    let same : place ≡ number = omega arith in
    subst (λ (n : ℕ). IsBarred reason n (facts_of y)) same
    (subst (λ (z : Certificate). IsBarred reason place (facts_of z)) is misses)
barred_at reason number (suc i) place (y ∷ xs) x here below is before misses = (
  before.0,
  barred_at reason (suc number) i place xs x (omega arith) (omega arith) is before.1 misses,
)

-- those before a place may issue others, and the one there may not
pub one_barred : (reason : IssuingShortfall) (i : ℕ) (xs : List Certificate) (x : Certificate)
    → i < length xs → x ≡ get_or xs i x → MayIssueFrom 0 (front i xs)
    → IsBarred reason i (facts_of x) → MissesFrom MayIssue (IsBarred reason) 0 (map facts_of xs) i
one_barred reason i xs x below is before misses =
    barred_at reason 0 i i xs x (omega arith) below is before misses

issues_at : (number i place : ℕ) (xs : List Certificate) (x : Certificate) → place ≡ number + i
    → i < length xs → x ≡ get_or xs i x → MayIssueFrom number (front i xs)
    → MayIssue place (facts_of x) → MayIssueFrom number (front (suc i) xs)
issues_at number i place [] x here below is before may = absurd (omega arith)
issues_at number zero place (y ∷ xs) x here below is before may =
    let same : place ≡ number = omega arith in (
      subst (λ (n : ℕ). MayIssue n (facts_of y)) same
          (subst (λ (z : Certificate). MayIssue place (facts_of z)) is may),
      tt,
    )
issues_at number (suc i) place (y ∷ xs) x here below is before may = (
  before.0,
  issues_at (suc number) i place xs x (omega arith) (omega arith) is before.1 may,
)

-- one more may issue others
pub one_issues : (i : ℕ) (xs : List Certificate) (x : Certificate) → i < length xs
    → x ≡ get_or xs i x → MayIssueFrom 0 (front i xs) → MayIssue i (facts_of x)
    → MayIssueFrom 0 (front (i + 1) xs)
one_issues i xs x below is before may =
    rw (add-one i) (issues_at 0 i i xs x (omega arith) below is before may)
