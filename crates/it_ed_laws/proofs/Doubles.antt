-- Doubling a point of the curve and adding it to itself: E and G of the sum are the opposites of
-- twice those of the double, and F and H are twice those.
use Rattle.std.proofs.Common.{◌≡◌, ℕ, ◌+◌, ◌*◌, ◌<◌, ◌≤◌, arith}
use Rattle.it_ed_field.specs.Prime.{prime}
use Rattle.it_ed_point.specs.Curve.{curve_d, double_of, sum_of}
use Rattle.it_ed_point.specs.declared.point.Point.{Point}
use Rattle.it_ed_laws.specs.OnCurve.{IsOnCurve, IsSamePoint}
use Rattle.it_ed_laws.proofs.Numbers.{some_prime, under}
use Rattle.it_ed_laws.proofs.Differences.{IsDifference, plus, minus, times, itself, restated}
use Rattle.it_ed_laws.proofs.Differences.{plus-is, minus-is, times-is, product-is, numbers}
use Rattle.it_ed_laws.proofs.Differences.{by_relation, twice, twice_opposite, same}
use Rattle.it_ed_laws.proofs.Sums.{e_is, f_is, g_is, h_is}
use Rattle.it_ed_laws.proofs.Equation.{left_side, square_of_y}

-- H of a double
abbrev pub double_h : ℕ → ℕ → ℕ → ℕ
double_h p x y = plus p (times p x x) (times p y y)

-- G of a double
abbrev pub double_g : ℕ → ℕ → ℕ → ℕ
double_g p x y = minus p (times p x x) (times p y y)

-- E of a double
abbrev pub double_e : ℕ → ℕ → ℕ → ℕ
double_e p x y = minus p (double_h p x y) (times p (plus p x y) (plus p x y))

-- F of a double
abbrev pub double_f : ℕ → ℕ → ℕ → ℕ → ℕ
double_f p x y z = plus p (times p (plus p z z) z) (double_g p x y)

double_h-is : (p x y : ℕ) → IsDifference p (double_h p x y) (x * x + y * y) 0
double_h-is p x y = restated _ _ (plus-is (numbers p x x) (numbers p y y)) (omega arith)

double_e-is : (p x y : ℕ) → 0 < p → IsDifference p (double_e p x y) 0 (2 * (x * y))
double_e-is p x y some =
    let sum = plus-is (itself p x) (itself p y) in
    let square = times-is sum sum in
    restated _ _ (minus-is (under _ p some) (double_h-is p x y) square) (omega arith)

double_f-is : (p x y z : ℕ) → 0 < p
    → IsDifference p (double_f p x y z) (2 * (z * z) + x * x) (y * y)
double_f-is p x y z some =
    let c = times-is (plus-is (itself p z) (itself p z)) (itself p z) in
    restated _ _ (plus-is c (left_side p y x some)) (omega arith)

-- the parts of the sum by those of the double, where the square of y stands for what it does on the
-- curve
e_same : (p x y : ℕ) → 0 < p → (e : ℕ)
    → IsDifference p e (2 * (x * y) + 2 * (y * x)) 0 → IsDifference p e 0 (2 * double_e p x y)
e_same p x y some e h = twice_opposite h (double_e-is p x y some) (omega arith)

f_same : (p k x y z t : ℕ) → 0 < p → (f : ℕ)
    → IsDifference p (y * y) (z * z + k * (t * t) + x * x) 0
    → IsDifference p f (2 * (z * z)) (2 * (k * (t * t))) → IsDifference p f (2 * double_f p x y z) 0
f_same p k x y z t some f curve h =
    let other = by_relation (z * z) (k * (t * t)) (double_f-is p x y z some) curve (omega arith) in
    twice h other (omega arith)

g_same : (p k x y z t : ℕ) → 0 < p → (g : ℕ)
    → IsDifference p (y * y) (z * z + k * (t * t) + x * x) 0
    → IsDifference p g (2 * (z * z) + 2 * (k * (t * t))) 0 → IsDifference p g 0 (2 * double_g p x y)
g_same p k x y z t some g curve h =
    let other = by_relation 0 (z * z + k * (t * t)) (left_side p y x some) curve (omega arith) in
    twice_opposite h other (omega arith)

h_same : (p x y h : ℕ) → IsDifference p h (2 * (y * y) + 2 * (x * x)) 0
    → IsDifference p h (2 * double_h p x y) 0
h_same p x y h is = twice is (double_h-is p x y) (omega arith)

-- X beside Z of the other, where E, F and G are such
same_x : (p e f g e' f' g' : ℕ) → IsDifference p e 0 (2 * e') → IsDifference p f (2 * f') 0
    → IsDifference p g 0 (2 * g')
    → times p (times p e' f') (times p f g) ≡ times p (times p e f) (times p f' g')
same_x p e f g e' f' g' is_e is_f is_g =
    let left = product-is (numbers p e' f') (times-is is_f is_g) in
    let right = product-is (times-is is_e is_f) (numbers p f' g') in
    same left right (omega arith)

-- Y beside Z of the other, where F, G and H are such
same_y : (p f g h f' g' h' : ℕ) → IsDifference p f (2 * f') 0 → IsDifference p g 0 (2 * g')
    → IsDifference p h (2 * h') 0
    → times p (times p g' h') (times p f g) ≡ times p (times p g h) (times p f' g')
same_y p f g h f' g' h' is_f is_g is_h =
    let left = product-is (numbers p g' h') (times-is is_f is_g) in
    let right = product-is (times-is is_g is_h) (numbers p f' g') in
    same left right (omega arith)

pub doubled : (p : Point) → IsOnCurve p → IsSamePoint (double_of p) (sum_of p p)
unfolding sum_of double_of
doubled p on =
    let x = p.x in
    let y = p.y in
    let z = p.z in
    let t = p.t in
    let most : x ≤ prime = let below = on.reduced.x in omega arith in
    let curve = square_of_y prime curve_d x y z t some_prime on.equation in
    let e = e_same prime x y some_prime _ (e_is prime x y x y some_prime most most) in
    let f_sum = f_is prime curve_d z t z t some_prime in
    let f = f_same prime curve_d x y z t some_prime _ curve f_sum in
    let g = g_same prime curve_d x y z t some_prime _ curve (g_is prime curve_d z t z t) in
    let h = h_same prime x y _ (h_is prime x y x y most most) in
    record { x = same_x prime _ _ _ _ _ _ e f g; y = same_y prime _ _ _ _ _ _ f g h }
