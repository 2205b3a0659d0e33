-- What a leaf misses where an authority did not issue it.
use Rattle.std.proofs.Common.{◌≡◌, ◌↔◌, ℕ, zero, suc, ◌+◌, Some, None, List, [], ◌∷◌, drop, map, slice_get, refl, sym, ap, subst, ◌∙◌}
use Rattle.it_certificate.specs.Certificate.{Facts, facts_of}
use Rattle.it_certificate.specs.declared.certificate.Certificate.{Certificate}
use Rattle.it_issued.specs.Issued.{IsIssued}
use Rattle.it_issued.specs.IssueMisses.{IsIssueShortfall, IssueMisses, MeetsIssue as Met, OfIssuer, issue_place}
use Rattle.it_issued.specs.declared.shortfall.IssueShortfall.{IssueShortfall}
use Rattle.it_issued.specs.declared.shortfall.IssueShortfall.TheVariants as shortfalls
use Rattle.it_issued.proofs.Issuing.{first_facts}
use Rattle.it_issued.proofs.Missed.{HaveOwnPlaces, MetBelow, none_below, one_missed, one_more}
use Rattle.it_log.specs.declared.window.Window.{Window}

-- ---- places
abbrev at_place : ℕ → IssueShortfall
at_place zero = shortfalls.Name
at_place (suc zero) = shortfalls.Window
at_place (suc (suc zero)) = shortfalls.LeafTime
at_place (suc (suc (suc zero))) = shortfalls.AuthorityTime
at_place (suc (suc (suc (suc n)))) = shortfalls.Signature

at_its_place : (s : IssueShortfall) → at_place (issue_place s) ≡ s
at_its_place shortfalls.Name = refl
at_its_place shortfalls.Window = refl
at_its_place shortfalls.LeafTime = refl
at_its_place shortfalls.AuthorityTime = refl
at_its_place shortfalls.Signature = refl

pub own_places : HaveOwnPlaces IssueShortfall issue_place
own_places = λ s t same. sym (at_its_place s) ∙ ap at_place same ∙ at_its_place t

-- ---- what is met
abbrev pub Below : List Facts → Window → Facts → ℕ → ℕ → Type 0
Below certificates window leaf moment n =
    MetBelow IssueShortfall issue_place (Met certificates window leaf moment) n

more : (certificates : List Facts) (window : Window) (leaf : Facts) (moment : ℕ) (s : IssueShortfall) → Met certificates window leaf moment s
    → Below certificates window leaf moment (issue_place s) → Below certificates window leaf moment (issue_place s + 1)
more certificates window leaf moment s met before =
    one_more IssueShortfall issue_place (Met certificates window leaf moment) own_places s met before

pub below_name : (certificates : List Facts) (window : Window) (leaf : Facts) (moment : ℕ) → Below certificates window leaf moment 0
below_name certificates window leaf moment = none_below IssueShortfall issue_place (Met certificates window leaf moment)

pub below_window : (certificates : List Facts) (window : Window) (leaf : Facts) (moment : ℕ) → Met certificates window leaf moment shortfalls.Name
    → Below certificates window leaf moment 1
below_window certificates window leaf moment named =
    more certificates window leaf moment shortfalls.Name named (below_name certificates window leaf moment)

pub below_leaf_time : (certificates : List Facts) (window : Window) (leaf : Facts) (moment : ℕ)
    → Met certificates window leaf moment shortfalls.Name → Met certificates window leaf moment shortfalls.Window
    → Below certificates window leaf moment 2
below_leaf_time certificates window leaf moment named trusted =
    more certificates window leaf moment shortfalls.Window trusted (below_window certificates window leaf moment named)

pub below_authority_time : (certificates : List Facts) (window : Window) (leaf : Facts) (moment : ℕ)
    → Met certificates window leaf moment shortfalls.Name → Met certificates window leaf moment shortfalls.Window
    → Met certificates window leaf moment shortfalls.LeafTime → Below certificates window leaf moment 3
below_authority_time certificates window leaf moment named trusted valid =
    more certificates window leaf moment shortfalls.LeafTime valid (below_leaf_time certificates window leaf moment named trusted)

pub below_signature : (certificates : List Facts) (window : Window) (leaf : Facts) (moment : ℕ)
    → Met certificates window leaf moment shortfalls.Name → Met certificates window leaf moment shortfalls.Window
    → Met certificates window leaf moment shortfalls.LeafTime → Met certificates window leaf moment shortfalls.AuthorityTime
    → Below certificates window leaf moment 4
below_signature certificates window leaf moment named trusted valid all_valid =
    more certificates window leaf moment shortfalls.AuthorityTime all_valid
    (below_authority_time certificates window leaf moment named trusted valid)

-- an authority that issued the leaf meets each condition, and one that meets each issued it
of_issuer : (Is : Facts → Type 0) (certificates : List Facts) (issuer : Facts) (others : List Facts) → certificates ≡ issuer ∷ others → Is issuer
    → OfIssuer Is certificates
of_issuer Is certificates issuer others are is = subst (OfIssuer Is) (sym are) is

meets : (certificates : List Facts) (window : Window) (leaf : Facts) (moment : ℕ) → IsIssued certificates window leaf moment
    → (s : IssueShortfall) → Met certificates window leaf moment s
meets certificates window leaf moment is shortfalls.Name =
    of_issuer _ certificates is.issued.issuer is.issued.others is.issued.certificates_are is.issued.named
meets certificates window leaf moment is shortfalls.Window = is.trusted
meets certificates window leaf moment is shortfalls.LeafTime = is.issued.leaf_valid
meets certificates window leaf moment is shortfalls.AuthorityTime = is.issued.all_valid
meets certificates window leaf moment is shortfalls.Signature =
    of_issuer _ certificates is.issued.issuer is.issued.others is.issued.certificates_are is.issued.signed

pub all_met : (certificates : List Facts) (window : Window) (leaf : Facts) (moment : ℕ) → Met certificates window leaf moment shortfalls.Name
    → Met certificates window leaf moment shortfalls.Window → Met certificates window leaf moment shortfalls.LeafTime
    → Met certificates window leaf moment shortfalls.AuthorityTime → Met certificates window leaf moment shortfalls.Signature
    → IsIssued certificates window leaf moment
all_met [] window leaf moment named trusted valid all_valid signed = absurd named
all_met (issuer ∷ others) window leaf moment named trusted valid all_valid signed = record {
  issued = record {
    issuer = issuer;
    others = others;
    certificates_are = refl;
    named = named;
    signed = signed;
    leaf_valid = valid;
    all_valid = all_valid;
  };
  trusted = trusted;
}

-- ---- what is missed
pub missed : (certificates : List Facts) (window : Window) (leaf : Facts) (moment : ℕ) (s : IssueShortfall)
    → Below certificates window leaf moment (issue_place s) → ¬ Met certificates window leaf moment s
    → IsIssueShortfall certificates window leaf moment (Some s)
missed certificates window leaf moment s before none =
    (λ is. none (meets certificates window leaf moment is s), record { missed = none; before = before })

-- a leaf misses at most one condition
pub one_issue_missed : (certificates : List Facts) (window : Window) (leaf : Facts) (moment : ℕ) (s t : IssueShortfall)
    → IssueMisses certificates window leaf moment s → IssueMisses certificates window leaf moment t → s ≡ t
one_issue_missed certificates window leaf moment s t one two =
    one_missed IssueShortfall issue_place (Met certificates window leaf moment) own_places s t one two

-- ---- by the certificates that were read
pub of_first : (Is : Facts → Type 0) (xs : List Certificate) (x : Certificate) → Some x ≡ slice_get xs 0
    → OfIssuer Is (map facts_of xs) ↔ Is (facts_of x)
of_first Is xs x first =
    let are : map facts_of xs ≡ facts_of x ∷ map facts_of (drop 1 xs) = first_facts xs x first in (
      λ of. subst (OfIssuer Is) are of,
      λ is. subst (OfIssuer Is) (sym are) is,
    )

pub of_none : (Is : Facts → Type 0) (xs : List Certificate) → None ≡ slice_get xs 0 → ¬ OfIssuer Is (map facts_of xs)
of_none Is [] none = λ of. of
of_none Is (x ∷ xs) none = absurd (cc)
