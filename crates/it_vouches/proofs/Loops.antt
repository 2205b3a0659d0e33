-- Loops that look for an element.
use Rattle.std.proofs.Common.{◌≡◌, ℕ, ◌+◌, ◌<◌, ◌≤◌, ◌↔◌, true, false, true≢false, IsTrue, List, [], ◌∷◌, length, get_or, take, All, Any}
use Rattle.std.proofs.Common.{refl, sym, subst, arith, ◌⊎◌, inl, inr, suc, zero}
use Rattle.std.specs.List.{Contains}
use Rattle.std.proofs.lemmas.List.{take_all}
use Rattle.std.proofs.lemmas.List.Elements.{All-more}
use Rattle.it_issued.proofs.Tests.{refused}

pub any_at : {X : Type 0} (P : X → Type 0) (xs : List X) (i : ℕ) (x : X) → i < length xs → x ≡ get_or xs i x → P x → Any P xs
any_at P xs i x below is p = (i, x, below, sym is, p)

pub any_here : {X : Type 0} (P : X → Type 0) (xs : List X) (i : ℕ) (x : X) → i < length xs → x ≡ get_or xs i x → P x
    → IsTrue true ↔ Any P xs
any_here P xs i x below is p = (λ t. any_at P xs i x below is p, λ any. refl)

abbrev pub NoneIn : {X : Type 0} → (X → Type 0) → List X → Type 0
NoneIn P xs = All (λ x. ¬ P x) xs

pub none_first : {X : Type 0} (P : X → Type 0) → NoneIn P []
none_first P = λ k d low. absurd (omega (arith, low))

pub none_more : {X : Type 0} (P : X → Type 0) (xs : List X) (i : ℕ) (x : X) → i < length xs → x ≡ get_or xs i x → (P x → ⊥)
    → NoneIn P (take i xs) → NoneIn P (take (i + 1) xs)
none_more P xs i x below is none before =
    All-more (λ y. ¬ P y) xs i x below before (λ p. none (subst P (sym is) p))

pub none_left : {X : Type 0} (P : X → Type 0) (xs : List X) (i : ℕ) → length xs ≤ i → NoneIn P (take i xs)
    → IsTrue false ↔ Any P xs
none_left P xs i end none =
    let every : NoneIn P xs = subst (NoneIn P) (take_all i xs end) none in
    refused (Any P xs) (λ any. every any.0 any.1 any.2 (subst P (sym any.3) any.4))

pub not_any : {X : Type 0} (P : X → Type 0) (xs : List X) (i : ℕ) → length xs ≤ i → NoneIn P (take i xs) → ¬ Any P xs
not_any P xs i end none any = true≢false (sym ((none_left P xs i end none).1 any))

-- elements of lists
pub contains_cases : {X : Type 0} (x z : X) (xs : List X) → Contains (x ∷ xs) z → (x ≡ z) ⊎ Contains xs z
contains_cases x z xs (zero, below, is) = inl is
contains_cases x z xs (suc k, below, is) = inr (k, omega (arith, below), is)

pub contains_later : {X : Type 0} (x z : X) (xs : List X) → Contains xs z → Contains (x ∷ xs) z
contains_later x z xs c = (suc c.0, omega (arith, c.1), c.2)

pub contains_first : {X : Type 0} (x : X) (xs : List X) → Contains (x ∷ xs) x
contains_first x xs = (zero, omega arith, refl)

pub contains_none : {X : Type 0} (z : X) → Contains [] z → ⊥
contains_none z c = omega (arith, c.1)

pub any_of_contains : {X : Type 0} (P : X → Type 0) (xs : List X) (x : X) → Contains xs x → P x → Any P xs
any_of_contains P xs x c p = (c.0, x, c.1, c.2, p)

pub contains_of_any : {X : Type 0} (P : X → Type 0) (xs : List X) (any : Any P xs) → Contains xs any.1
contains_of_any P xs any = (any.0, any.2, any.3)
