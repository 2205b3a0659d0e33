-- Differences modulo any number p, over whole numbers: x is the difference of a and b where x + b
-- and a are the same but for multiples of p.
use Rattle.std.proofs.Common.{◌≡◌, ℕ, ◌+◌, ◌-◌, ◌*◌, ◌/◌, ◌%◌, ◌<◌, ◌≤◌, sym, ap, ◌∙◌, arith, lit<}
use native.Mathlib.Nat.{add-mul-mod_self_right}
use Rattle.std.proofs.Math.Nat.{mod-add-div'}
use Rattle.std.proofs.lemmas.Nat.{mod_below}
use Rattle.it_ed_field.specs.Prime.{prime}

pub some_prime : 0 < prime
some_prime = lit< tt

pub under : (n p : ℕ) → 0 < p → n % p ≤ p
under n p h = let below : n % p < p = mod_below n p h in omega arith

-- sides that differ by multiples leave the same remainder
pub same_remainder : (p x y j k : ℕ) → x + j * p ≡ y + k * p → x % p ≡ y % p
same_remainder p x y j k e =
    sym (add-mul-mod_self_right x j p) ∙ ap (λ (n : ℕ). n % p) e ∙ add-mul-mod_self_right y k p

-- a number and its remainder
pub remainder : (p x a b k j : ℕ) → x + b + k * p ≡ a + j * p
    → x % p + b + (k + x / p) * p ≡ a + j * p
remainder p x a b k j e =
    let parts : x % p + x / p * p ≡ x = mod-add-div' x p in
    omega arith

pub sum : (p x y a b c d k j l m : ℕ) → x + b + k * p ≡ a + j * p → y + d + l * p ≡ c + m * p
    → x + y + (b + d) + (k + l) * p ≡ a + c + (j + m) * p
sum p x y a b c d k j l m e f = omega arith

-- taking y away is adding what p lacks of it
pub difference : (p x y a b c d k j l m : ℕ) → y ≤ p → x + b + k * p ≡ a + j * p
    → y + d + l * p ≡ c + m * p
    → x + (p - y) + (b + c) + (k + m) * p ≡ a + d + (j + l + 1) * p
difference p x y a b c d k j l m h e f = omega arith

product_of : (x y a b c d : ℕ) → x + b ≡ a → y + d ≡ c → x * y + (a * d + b * c) ≡ a * c + b * d
product_of x y a b c d e f = rw (← e, ← f) (omega arith)

pub product : (p x y a b c d k j l m : ℕ) → x + b + k * p ≡ a + j * p → y + d + l * p ≡ c + m * p
    → x * y + (a * d + b * c) + (a * l + j * d + j * l * p + (b * m + k * c + k * m * p)) * p
    ≡ a * c + b * d + (a * m + j * c + j * m * p + (b * l + k * d + k * l * p)) * p
product p x y a b c d k j l m e f =
    let one : x + (b + k * p) ≡ a + j * p = omega arith in
    let other : y + (d + l * p) ≡ c + m * p = omega arith in
    let whole : x * y + ((a + j * p) * (d + l * p) + (b + k * p) * (c + m * p))
    ≡ (a + j * p) * (c + m * p) + (b + k * p) * (d + l * p) =
    product_of x y (a + j * p) (b + k * p) (c + m * p) (d + l * p) one other in
    omega arith
