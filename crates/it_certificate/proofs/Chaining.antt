-- The certificates of an authority, place by place.
use Rattle.std.proofs.Common.{◌≡◌, ℕ, zero, suc, ◌+◌, ◌<◌, ◌≤◌, ◌↔◌, ◌==◌, ◌∙◌, Bool, true, false, true≢false, IsTrue, List, [], ◌∷◌, length, get_or, drop, map}
use Rattle.std.proofs.Common.{refl, sym, ap, subst, arith, add-one}
use Rattle.std.proofs.lemmas.Bool.{eqb-true, eqb-false}
use Rattle.it_certificate.specs.Authority.{AreLinked, IsChain, MayIssue, MayIssueFrom}
use Rattle.it_certificate.specs.Certificate.{facts_of}
use Rattle.it_certificate.specs.declared.certificate.Certificate.{Certificate}

pub turn : (place i : ℕ) (xs : List Certificate) (d : Certificate) → i < length xs
    → MayIssueFrom place (map facts_of (drop i xs))
    ↔ (MayIssue place (facts_of (get_or xs i d)) × MayIssueFrom (suc place) (map facts_of (drop (suc i) xs)))
turn place i [] d h = absurd (omega arith)
turn place zero (x ∷ xs) d h = (λ p. p, λ p. p)
turn place (suc i) (x ∷ xs) d h = turn place i xs d (omega arith)

pub no_more : (place i : ℕ) (xs : List Certificate) → length xs ≤ i → MayIssueFrom place (map facts_of (drop i xs))
no_more place zero [] h = tt
no_more place (suc i) [] h = tt
no_more place zero (x ∷ xs) h = absurd (omega arith)
no_more place (suc i) (x ∷ xs) h = no_more place i xs (omega arith)

pub link : (i : ℕ) (xs : List Certificate) (d e : Certificate) → suc i < length xs
    → AreLinked (map facts_of (drop i xs))
    ↔ (((get_or xs i d).parts.issuer.now ≡ (get_or xs (suc i) e).parts.subject.now) × AreLinked (map facts_of (drop (suc i) xs)))
link i [] d e h = absurd (omega arith)
link zero (x ∷ []) d e h = absurd (omega arith)
link zero (x ∷ y ∷ xs) d e h = (λ p. p, λ p. p)
link (suc i) (x ∷ xs) d e h = link i xs d e (omega arith)

pub last_linked : (i : ℕ) (xs : List Certificate) → length xs ≤ suc i → AreLinked (map facts_of (drop i xs))
last_linked zero [] h = tt
last_linked zero (x ∷ []) h = tt
last_linked zero (x ∷ y ∷ xs) h = absurd (omega arith)
last_linked (suc i) [] h = tt
last_linked (suc i) (x ∷ xs) h = last_linked i xs (omega arith)

-- one more certificate that may issue others
pub turn_over : (P : Type 0) (i : ℕ) (xs : List Certificate) (x : Certificate) (b : Bool) → i < length xs → x ≡ get_or xs i x
    → (IsTrue b ↔ MayIssue i (facts_of x)) → b ≡ true → (P ↔ MayIssueFrom i (map facts_of (drop i xs)))
    → P ↔ MayIssueFrom (i + 1) (map facts_of (drop (i + 1) xs))
turn_over P i xs x b below is iff holds before =
    let here = turn i i xs x below in
    let may = subst (λ (y : Certificate). MayIssue i (facts_of y)) is (iff.0 holds) in
    rw (add-one i) (
      λ all. (here.0 (before.0 all)).1,
      λ rest. before.1 (here.1 (may, rest)),
    )

-- one that may not
pub turn_stops : (P : Type 0) (i : ℕ) (xs : List Certificate) (x : Certificate) (b : Bool) → i < length xs → x ≡ get_or xs i x
    → (IsTrue b ↔ MayIssue i (facts_of x)) → b ≡ false → (P ↔ MayIssueFrom i (map facts_of (drop i xs)))
    → IsTrue false ↔ P
turn_stops P i xs x b below is iff fails before = (
  λ t. absurd (true≢false (sym t)),
  λ all. subst IsTrue fails (iff.1 (subst (λ (y : Certificate). MayIssue i (facts_of y)) (sym is)
      ((turn i i xs x below).0 (before.0 all)).0)),
)

-- no certificates are no authority's
pub no_certificates : (xs : List Certificate) → length xs ≡ 0 → IsTrue false ↔ IsChain (map facts_of xs)
no_certificates [] none = (λ t. absurd (true≢false (sym t)), λ chain. absurd (chain.some refl))
no_certificates (x ∷ xs) none = absurd (omega arith)

pub not_in_turn : (xs : List Certificate) (b : Bool) → (IsTrue b ↔ MayIssueFrom 0 (map facts_of xs)) → b ≡ false
    → IsTrue false ↔ IsChain (map facts_of xs)
not_in_turn xs b iff fails = (λ t. absurd (true≢false (sym t)), λ chain. subst IsTrue fails (iff.1 chain.may_issue))

some_facts : (xs : List Certificate) → 0 < length xs → map facts_of xs ≡ [] → ⊥
some_facts [] some none = omega arith
some_facts (x ∷ xs) some none = cc

pub chain_is : (xs : List Certificate) (a b : Bool) → 0 < length xs → (IsTrue a ↔ MayIssueFrom 0 (map facts_of xs)) → a ≡ true
    → (IsTrue b ↔ AreLinked (map facts_of xs)) → IsTrue b ↔ IsChain (map facts_of xs)
chain_is xs a b some turns holds links = (
  λ t. record { some = some_facts xs some; may_issue = turns.0 holds; linked = links.0 t },
  λ chain. links.1 chain.linked,
)

pub none_there : (xs : List Certificate) (b : Bool) → b ≡ (length xs == 0) → b ≡ true → length xs ≡ 0
none_there xs b e h = eqb-true (length xs) 0 (sym e ∙ h)

pub some_there : (xs : List Certificate) (b : Bool) → b ≡ (length xs == 0) → b ≡ false → 0 < length xs
some_there xs b e h = let some = eqb-false (length xs) 0 (sym e ∙ h) in omega arith

-- one certificate names another as its issuer
abbrev pub Names : Certificate → Certificate → Type 0
Names x y = x.parts.issuer.now ≡ y.parts.subject.now

-- the two at their places
at_places : (i place : ℕ) (xs : List Certificate) (x y : Certificate) → place ≡ suc i → x ≡ get_or xs i x → y ≡ get_or xs place y
    → Names x y ↔ Names (get_or xs i x) (get_or xs (suc i) y)
at_places i place xs x y here one two =
    let second : y ≡ get_or xs (suc i) y = two ∙ ap (λ (n : ℕ). get_or xs n y) here in (
      λ names. subst (λ (z : Certificate). Names z (get_or xs (suc i) y)) one (subst (λ (z : Certificate). Names x z) second names),
      λ names. subst (λ (z : Certificate). Names x z) (sym second) (subst (λ (z : Certificate). Names z (get_or xs (suc i) y)) (sym one) names),
    )

-- one more certificate that names the next as its issuer
pub link_over : (P : Type 0) (i place after : ℕ) (xs : List Certificate) (x y : Certificate) (b : Bool) → place ≡ suc i → after ≡ suc i
    → suc i < length xs → x ≡ get_or xs i x → y ≡ get_or xs place y → (IsTrue b ↔ Names x y) → b ≡ true
    → (P ↔ AreLinked (map facts_of (drop i xs))) → P ↔ AreLinked (map facts_of (drop after xs))
link_over P i place after xs x y b here there below one two iff holds before =
    let linked = link i xs x y below in
    let names = (at_places i place xs x y here one two).0 (iff.0 holds) in
    subst (λ (n : ℕ). P ↔ AreLinked (map facts_of (drop n xs))) (sym there) (
      λ all. (linked.0 (before.0 all)).1,
      λ rest. before.1 (linked.1 (names, rest)),
    )

-- one that does not
pub link_stops : (P : Type 0) (i place : ℕ) (xs : List Certificate) (x y : Certificate) (b : Bool) → place ≡ suc i
    → suc i < length xs → x ≡ get_or xs i x → y ≡ get_or xs place y → (IsTrue b ↔ Names x y) → b ≡ false
    → (P ↔ AreLinked (map facts_of (drop i xs))) → IsTrue false ↔ P
link_stops P i place xs x y b here below one two iff fails before =
    let linked = link i xs x y below in (
      λ t. absurd (true≢false (sym t)),
      λ all. subst IsTrue fails (iff.1 ((at_places i place xs x y here one two).1 (linked.0 (before.0 all)).0)),
    )
