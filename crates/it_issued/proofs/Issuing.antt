-- What an authority issued, by its certificates that were read.
use Rattle.std.proofs.Common.{◌≡◌, ℕ, zero, suc, ◌+◌, ◌<◌, ◌≤◌, ◌↔◌, pos, false, IsTrue, List, [], ◌∷◌, length, get_or, drop, map}
use Rattle.std.proofs.Common.{All, Some, slice_get, sym, ap, subst, arith, add-one}
use Rattle.std.specs.List.{AllByRecursion}
use Rattle.it_certificate.specs.Authority.{IsValidAt}
use Rattle.it_certificate.specs.Certificate.{facts_of}
use Rattle.it_certificate.specs.declared.certificate.Certificate.{Certificate}
use Rattle.it_certificate_log.specs.Bare.{WasRead}
use Rattle.it_issued.proofs.Tests.{refused}

-- the first of the certificates is the issuer
pub first_facts : (xs : List Certificate) (x : Certificate) → Some x ≡ slice_get xs 0 → map facts_of xs ≡ facts_of x ∷ map facts_of (drop 1 xs)
first_facts [] x e = absurd (cc)
first_facts (y ∷ ys) x e = let same : x ≡ y = cc in ap (λ (z : Certificate). facts_of z ∷ map facts_of ys) (sym same)

pub first_read : (xs : List Certificate) (x : Certificate) → All WasRead xs → Some x ≡ slice_get xs 0 → WasRead x
first_read [] x all e = absurd (cc)
first_read (y ∷ ys) x all e =
    let same : x ≡ y = cc in
    subst WasRead (sym same) (all 0 x (omega arith))

-- whether all are valid, place by place
abbrev pub AllValid : ℕ → List Certificate → Type 0
AllValid moment xs = AllByRecursion (IsValidAt (pos moment)) (map facts_of xs)

valid_here : (moment i : ℕ) (xs : List Certificate) (d : Certificate) → i < length xs
    → AllValid moment (drop i xs) ↔ (IsValidAt (pos moment) (facts_of (get_or xs i d)) × AllValid moment (drop (suc i) xs))
valid_here moment i [] d h = absurd (omega arith)
valid_here moment zero (x ∷ xs) d h = (λ p. p, λ p. p)
valid_here moment (suc i) (x ∷ xs) d h = valid_here moment i xs d (omega arith)

pub none_left : (moment i : ℕ) (xs : List Certificate) → length xs ≤ i → AllValid moment (drop i xs)
none_left moment zero [] h = tt
none_left moment (suc i) [] h = tt
none_left moment zero (x ∷ xs) h = absurd (omega arith)
none_left moment (suc i) (x ∷ xs) h = none_left moment i xs (omega arith)

pub valid_over : (P : Type 0) (moment i : ℕ) (xs : List Certificate) (x : Certificate) → i < length xs → x ≡ get_or xs i x
    → IsValidAt (pos moment) (facts_of x) → (P ↔ AllValid moment (drop i xs)) → P ↔ AllValid moment (drop (i + 1) xs)
valid_over P moment i xs x below is valid before =
    let here = valid_here moment i xs x below in
    let held = subst (λ (y : Certificate). IsValidAt (pos moment) (facts_of y)) is valid in
    rw (add-one i) (
      λ all. (here.0 (before.0 all)).1,
      λ rest. before.1 (here.1 (held, rest)),
    )

pub valid_stops : (P : Type 0) (moment i : ℕ) (xs : List Certificate) (x : Certificate) → i < length xs → x ≡ get_or xs i x
    → (IsValidAt (pos moment) (facts_of x) → ⊥) → (P ↔ AllValid moment (drop i xs)) → IsTrue false ↔ P
valid_stops P moment i xs x below is none before =
    refused P (λ all. none (subst (λ (y : Certificate). IsValidAt (pos moment) (facts_of y)) (sym is)
    ((valid_here moment i xs x below).0 (before.0 all)).0))
