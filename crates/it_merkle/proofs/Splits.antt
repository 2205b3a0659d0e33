-- The largest power of two below a number, and lists in two pieces.
use Rattle.std.proofs.Common.{◌≡◌, ℕ, suc, ◌+◌, ◌*◌, ◌^◌, ◌<◌, ◌≤◌, List, [], ◌∷◌, ◌++◌}
use Rattle.std.proofs.Common.{length, lit<, ◌⊎◌, inl, inr, refl, sym, ap, ◌∙◌, arith, length-append}
use Rattle.std.proofs.Math.Nat.{pow-le-pow_right}
use native.Mathlib.Nat.{pow-suc}
use Rattle.std.proofs.lemmas.Nat.{pow_pos}
use Rattle.std.proofs.lemmas.Bool.{cases_order}
use Rattle.it_merkle.specs.Tree.{IsSplit}

-- a power of two that is below another is at most half of it
pub half_of : (i j : ℕ) → i < j → 2 * 2 ^ i ≤ 2 ^ j
half_of i j h =
    let next : 2 ^ suc i ≡ 2 ^ i * 2 = pow-suc 2 i in
    let most : 2 ^ suc i ≤ 2 ^ j = pow-le-pow_right (lit< tt) (omega arith) in
    omega arith

by_exponents : (n j k i e : ℕ) → j ≡ 2 ^ i → k ≡ 2 ^ e → j < n → k < n → n ≤ 2 * j → n ≤ 2 * k
    → (i ≡ e) ⊎ ((i < e) ⊎ (e < i)) → j ≡ k
by_exponents n j k i e p q jn kn nj nk (inl same) = p ∙ ap (λ (x : ℕ). 2 ^ x) same ∙ sym q
by_exponents n j k i e p q jn kn nj nk (inr (inl less)) =
    let half : 2 * 2 ^ i ≤ 2 ^ e = half_of i e less in absurd (omega arith)
by_exponents n j k i e p q jn kn nj nk (inr (inr more)) =
    let half : 2 * 2 ^ e ≤ 2 ^ i = half_of e i more in absurd (omega arith)

pub one_split : (n j k : ℕ) → IsSplit n j → IsSplit n k → j ≡ k
one_split n j k s t =
    by_exponents n j k s.exponent t.exponent s.power t.power s.below t.below s.largest t.largest
    (cases_order s.exponent t.exponent)

pub some_split : (n k : ℕ) → IsSplit n k → 0 < k
some_split n k s = let some : 0 < 2 ^ s.exponent = pow_pos s.exponent in let is = s.power in omega arith

pub more_than_one : (n k : ℕ) → IsSplit n k → 1 < n
more_than_one n k s = let some = some_split n k s in let below = s.below in omega arith

-- two lists that are one, in pieces of which the first are as long
pub same_pieces : {X : Type 0} (a b x y : List X) → length a ≡ length b → a ++ x ≡ b ++ y → (a ≡ b) × (x ≡ y)
same_pieces [] [] x y long e = (refl, e)
same_pieces [] (b ∷ bs) x y long e = absurd (omega arith)
same_pieces (a ∷ xs) [] x y long e = absurd (omega arith)
same_pieces (a ∷ xs) (b ∷ bs) x y long e =
    let head : a ≡ b = cc in
    let tail : xs ++ x ≡ bs ++ y = cc in
    let parts = same_pieces xs bs x y (omega arith) tail in
    let first = parts.0 in
    let second = parts.1 in
    (cc, second)

-- the same, where the last are as long
pub same_ends : {X : Type 0} (a b x y : List X) → length x ≡ length y → a ++ x ≡ b ++ y → (a ≡ b) × (x ≡ y)
same_ends a b x y long e =
    let whole : length (a ++ x) ≡ length (b ++ y) = ap length e in
    let first : length (a ++ x) ≡ length a + length x = length-append a x in
    let second : length (b ++ y) ≡ length b + length y = length-append b y in
    same_pieces a b x y (omega arith) e

-- lists of which two trees are made in the same way have the same pieces
pub same_halves : {X : Type 0} (a b x y : List X) → IsSplit (length (a ++ x)) (length a) → IsSplit (length (b ++ y)) (length b)
    → a ++ x ≡ b ++ y → (a ≡ b) × (x ≡ y)
same_halves a b x y s t e =
    let sizes : length (a ++ x) ≡ length (b ++ y) = ap length e in
    same_pieces a b x y (one_split (length (b ++ y)) (length a) (length b) (rw sizes at s) t) e
