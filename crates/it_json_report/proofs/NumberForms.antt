-- What a number in JSON tells.
use Rattle.std.proofs.Common.{◌≡◌, ◌<◌, ◌≤◌, ◌^◌, ◌+◌, ◌%◌, ℕ, List, [], ◌∷◌, ◌++◌, refl, arith}
use Rattle.std.proofs.Common.{lit<}
use Rattle.std.specs.Prelude.{decimal}
use Rattle.std.proofs.lemmas.Fmt.{decimal_by_steps, decimal_injective}
use Rattle.it_report.specs.Fault.{number_of}
use Rattle.it_report.specs.declared.refusal.Fault.{Fault}
use Rattle.it_report.specs.declared.refusal.Fault.TheVariants.{BadPolicy}

-- each is a decimal digit
abbrev Digits : List ℕ → Type 0
Digits [] = Unit {0}
Digits (x ∷ xs) = (48 ≤ x) × (x < 58) × Digits xs

-- a text begins with what is not a decimal digit
abbrev pub Ends : List ℕ → Type 0
Ends [] = ⊥
Ends (c ∷ cs) = 48 ≤ c → 58 ≤ c

Digits-append : (xs ys : List ℕ) → Digits xs → Digits ys → Digits (xs ++ ys)
Digits-append [] ys all also = also
Digits-append (x ∷ xs) ys all also = (all.0, all.1, Digits-append xs ys all.2 also)

Digits-decimal : (n : ℕ) → n < 2 ^ 64 → Digits (decimal n)
Digits-decimal n small =
    decimal_by_steps (λ _ digits. Digits digits) (λ m below. (omega arith, omega arith, tt))
    (λ m digits _ all. Digits-append digits ((48 + m % 10) ∷ []) all (omega arith, omega arith, tt))
    n small

-- digits that end are where they end
cut_digits : (xs ys ps qs : List ℕ) → Digits xs → Digits ys → Ends ps → Ends qs → xs ++ ps ≡ ys
    ++ qs → (xs ≡ ys) × (ps ≡ qs)
cut_digits [] [] ps qs all also ends also_ends same = (refl, same)
cut_digits [] (y ∷ ys) [] qs all also ends also_ends same = absurd ends
cut_digits [] (y ∷ ys) (p ∷ ps) qs all also ends also_ends same =
    let here : p ≡ y = cc in absurd (omega (arith, also.0, also.1))
cut_digits (x ∷ xs) [] ps [] all also ends also_ends same = absurd also_ends
cut_digits (x ∷ xs) [] ps (q ∷ qs) all also ends also_ends same =
    let here : x ≡ q = cc in absurd (omega (arith, all.0, all.1))
cut_digits (x ∷ xs) (y ∷ ys) ps qs all also ends also_ends same =
    let here : x ≡ y = cc in
    let tails : xs ++ ps ≡ ys ++ qs = cc in
    let rest = cut_digits xs ys ps qs all.2 also.2 ends also_ends tails in
    (λ i. here i ∷ rest.0 i, rest.1)

pub number_then : (m n : ℕ) (ps qs : List ℕ) → m < 2 ^ 64 → n < 2 ^ 64 → Ends ps → Ends qs
    → decimal m ++ ps ≡ decimal n ++ qs → (m ≡ n) × (ps ≡ qs)
number_then m n ps qs small also_small ends also_ends same =
    let parts = cut_digits (decimal m) (decimal n) ps qs (Digits-decimal m small)
    (Digits-decimal n also_small) ends also_ends same in
    (decimal_injective m n small also_small parts.0, parts.1)

-- ---- the number of a fault
pub number_is_small : (fault : Fault) → number_of fault < 2 ^ 64
number_is_small (BadPolicy part) = lit< tt
number_is_small fault = lit< tt
