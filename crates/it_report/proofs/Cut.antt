-- Lists that are cut at an element that they lack.
use Rattle.std.proofs.Common.{◌≡◌, ◌≢◌, ◌<◌, ◌^◌, ℕ, zero, suc, ◌+◌, ◌%◌, ◌==◌, true, not, List, []}
use Rattle.std.proofs.Common.{◌∷◌, ◌++◌, refl, arith}
use Rattle.std.specs.Prelude.{Contains, decimal}
use Rattle.std.specs.List.{list_all}
use Rattle.std.proofs.lemmas.Fmt.{decimal_by_steps}
use Rattle.std.proofs.lemmas.Bool.Decides.{nat_tests}

-- no element is c
abbrev pub Lacks : ℕ → List ℕ → Type 0
Lacks c [] = Unit {0}
Lacks c (x ∷ xs) = (x ≢ c) × Lacks c xs

-- two lists that lack what stands behind them are where they are cut
pub cut : (c : ℕ) (xs ys ps qs : List ℕ) → Lacks c xs → Lacks c ys → xs ++ c ∷ ps ≡ ys ++ c ∷ qs
    → (xs ≡ ys) × (ps ≡ qs)
cut c [] [] ps qs none also_none same = (refl, cc)
cut c [] (y ∷ ys) ps qs none others same = let here : y ≡ c = cc in absurd (others.0 here)
cut c (x ∷ xs) [] ps qs others none same = let here : x ≡ c = cc in absurd (others.0 here)
cut c (x ∷ xs) (y ∷ ys) ps qs lacks also_lacks same =
    let head : x ≡ y = cc in
    let rest = cut c xs ys ps qs lacks.1 also_lacks.1 (cc) in
    (let tail = rest.0 in cc, rest.1)

pub Lacks-append : (c : ℕ) (xs ys : List ℕ) → Lacks c xs → Lacks c ys → Lacks c (xs ++ ys)
Lacks-append c [] ys lacks also_lacks = also_lacks
Lacks-append c (x ∷ xs) ys lacks also_lacks = (lacks.0, Lacks-append c xs ys lacks.1 also_lacks)

-- a test of it
pub Lacks-test : (c : ℕ) (xs : List ℕ) → list_all (λ x. not (x == c)) xs ≡ true → Lacks c xs
Lacks-test c [] passes = tt
Lacks-test c (x ∷ xs) passes =
    (grind (arith, nat_tests), Lacks-test c xs (grind (arith, nat_tests)))

-- decimal digits lack what is below them
pub Lacks-decimal : (c n : ℕ) → c < 48 → n < 2 ^ 64 → Lacks c (decimal n)
Lacks-decimal c n below small =
    decimal_by_steps (λ _ digits. Lacks c digits) (λ m _. (omega arith, tt))
    (λ m digits _ lacks. Lacks-append c digits ((48 + m % 10) ∷ []) lacks (omega arith, tt)) n small

pub Lacks-none : (c : ℕ) (xs : List ℕ) → Lacks c xs → ¬ Contains xs c
Lacks-none c [] lacks (k, below, is) = absurd (omega arith)
Lacks-none c (x ∷ xs) lacks (zero, below, is) = lacks.0 is
Lacks-none c (x ∷ xs) lacks (suc k, below, is) = Lacks-none c xs lacks.1 (k, omega arith, is)
