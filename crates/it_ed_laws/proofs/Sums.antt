-- What the parts of a sum of points stand for (RFC 8032, section 5.1.4).
use Rattle.std.proofs.Common.{ℕ, ◌+◌, ◌*◌, ◌<◌, ◌≤◌, arith}
use Rattle.it_ed_laws.proofs.Numbers.{under}
use Rattle.it_ed_laws.proofs.Differences.{IsDifference, plus, minus, times, itself, restated}
use Rattle.it_ed_laws.proofs.Differences.{plus-is, minus-is, times-is}

-- A, the product of the differences of y and x
abbrev pub part_a : ℕ → ℕ → ℕ → ℕ → ℕ → ℕ
part_a p x y u v = times p (minus p y x) (minus p v u)

-- B, the product of the sums of y and x
abbrev pub part_b : ℕ → ℕ → ℕ → ℕ → ℕ → ℕ
part_b p x y u v = times p (plus p y x) (plus p v u)

-- C, of the constant k, which is d
abbrev pub part_c : ℕ → ℕ → ℕ → ℕ → ℕ
part_c p k t w = times p (times p t (plus p k k)) w

-- D
abbrev pub part_d : ℕ → ℕ → ℕ → ℕ
part_d p z s = times p (plus p z z) s

a_is : (p x y u v : ℕ) → x ≤ p → u ≤ p
    → IsDifference p (part_a p x y u v) (y * v + x * u) (y * u + x * v)
a_is p x y u v h k =
    let first = minus-is h (itself p y) (itself p x) in
    let second = minus-is k (itself p v) (itself p u) in
    restated _ _ (times-is first second) (omega arith)

b_is : (p x y u v : ℕ) → IsDifference p (part_b p x y u v) (y * v + y * u + x * v + x * u) 0
b_is p x y u v =
    let first = plus-is (itself p y) (itself p x) in
    let second = plus-is (itself p v) (itself p u) in
    restated _ _ (times-is first second) (omega arith)

c_is : (p k t w : ℕ) → IsDifference p (part_c p k t w) (2 * (k * (t * w))) 0
c_is p k t w =
    let doubled = times-is (itself p t) (plus-is (itself p k) (itself p k)) in
    restated _ _ (times-is doubled (itself p w)) (omega arith)

d_is : (p z s : ℕ) → IsDifference p (part_d p z s) (2 * (z * s)) 0
d_is p z s = restated _ _ (times-is (plus-is (itself p z) (itself p z)) (itself p s)) (omega arith)

-- E = B - A
pub e_is : (p x y u v : ℕ) → 0 < p → x ≤ p → u ≤ p
    → IsDifference p (minus p (part_b p x y u v) (part_a p x y u v)) (2 * (x * v) + 2 * (y * u)) 0
e_is p x y u v some h k =
    restated _ _ (minus-is (under _ p some) (b_is p x y u v) (a_is p x y u v h k)) (omega arith)

-- F = D - C
pub f_is : (p k z t s w : ℕ) → 0 < p
    → IsDifference p (minus p (part_d p z s) (part_c p k t w)) (2 * (z * s)) (2 * (k * (t * w)))
f_is p k z t s w some =
    restated _ _ (minus-is (under _ p some) (d_is p z s) (c_is p k t w)) (omega arith)

-- G = D + C
pub g_is : (p k z t s w : ℕ)
    → IsDifference p (plus p (part_d p z s) (part_c p k t w)) (2 * (z * s) + 2 * (k * (t * w))) 0
g_is p k z t s w = restated _ _ (plus-is (d_is p z s) (c_is p k t w)) (omega arith)

-- H = B + A
pub h_is : (p x y u v : ℕ) → x ≤ p → u ≤ p
    → IsDifference p (plus p (part_b p x y u v) (part_a p x y u v)) (2 * (y * v) + 2 * (x * u)) 0
h_is p x y u v h k = restated _ _ (plus-is (b_is p x y u v) (a_is p x y u v h k)) (omega arith)
