-- Opposites of points of the curve, and the sums of points with them.
use Rattle.std.proofs.Common.{◌≡◌, ℕ, ◌+◌, ◌-◌, ◌*◌, ◌≤◌, subst, arith}
use Rattle.std.proofs.lemmas.Nat.{mod_below}
use Rattle.it_ed_field.specs.Prime.{prime}
use Rattle.it_ed_point.specs.Curve.{curve_d, neutral, opposite_of, sum_of}
use Rattle.it_ed_point.specs.declared.point.Point.{Point}
use Rattle.it_ed_laws.specs.OnCurve.{IsOnCurve, IsSamePoint}
use Rattle.it_ed_laws.proofs.Numbers.{some_prime, under}
use Rattle.it_ed_laws.proofs.Differences.{IsDifference, plus, minus, times, itself, restated}
use Rattle.it_ed_laws.proofs.Differences.{times-is, product-is, numbers, opposite, through, tied}
use Rattle.it_ed_laws.proofs.Differences.{turned, by_relation, same}
use Rattle.it_ed_laws.proofs.Sums.{e_is, f_is, h_is}
use Rattle.it_ed_laws.proofs.Equation.{square_of_y}

-- the opposite's square is the same
square : (p x : ℕ) → x ≤ p → times p (minus p 0 x) (minus p 0 x) ≡ times p x x
square p x h =
    let left = product-is (opposite p x h) (opposite p x h) in
    let right = product-is (itself p x) (itself p x) in
    same left right (omega arith)

-- X Y and Z T have opposites together
products : (p x y z t : ℕ) → x ≤ p → t ≤ p → times p x y ≡ times p z t
    → times p (minus p 0 x) y ≡ times p z (minus p 0 t)
products p x y z t x_most t_most e =
    let one : IsDifference p (times p z t) (x * y) 0 =
    subst (λ (n : ℕ). IsDifference p n (x * y) 0) e (numbers p x y) in
    let relation = tied one (numbers p z t) in
    let first = product-is (opposite p x x_most) (itself p y) in
    let left : IsDifference p (minus p 0 x * y) 0 (z * t) =
    by_relation 0 (z * t) first relation (omega arith) in
    same left (product-is (itself p z) (opposite p t t_most)) (omega arith)

equations : (p k x y z t x' t' : ℕ) → times p x' x' ≡ times p x x → times p t' t' ≡ times p t t
    → minus p (times p y y) (times p x x) ≡ plus p (times p z z) (times p k (times p t t))
    → minus p (times p y y) (times p x' x') ≡ plus p (times p z z) (times p k (times p t' t'))
equations p k x y z t x' t' e f h = cc

pub opposite_on_curve : (p : Point) → IsOnCurve p → IsOnCurve (opposite_of p)
opposite_on_curve p on =
    let x_most : p.x ≤ prime = let below = on.reduced.x in omega arith in
    let t_most : p.t ≤ prime = let below = on.reduced.t in omega arith in
    let x_square = square prime p.x x_most in
    let t_square = square prime p.t t_most in
    record {
      reduced = record {
        x = mod_below (0 + (prime - p.x)) prime some_prime;
        y = on.reduced.y;
        z = on.reduced.z;
        t = mod_below (0 + (prime - p.t)) prime some_prime;
      };
      finite = on.finite;
      equation = equations prime curve_d p.x p.y p.z p.t _ _ x_square t_square on.equation;
      product = products prime p.x p.y p.z p.t x_most t_most on.product;
    }

-- a number n times another, which stands for an opposite
scaled : (p n x u : ℕ) → IsDifference p u 0 x → IsDifference p (n * u) 0 (n * x)
scaled p n x u h = restated _ _ (product-is (itself p n) h) (omega arith)

-- E is 0, where u is the opposite of x
e_none : (p e x y u : ℕ) → IsDifference p e (2 * (x * y) + 2 * (y * u)) 0 → IsDifference p u 0 x
    → IsDifference p e 0 0
e_none p e x y u is_e is_u =
    by_relation 0 0 is_e (turned (scaled p (2 * y) x u is_u)) (omega arith)

-- F, where w is the opposite of t
f_same : (p k f z t w : ℕ) → IsDifference p f (2 * (z * z)) (2 * (k * (t * w)))
    → IsDifference p w 0 t → IsDifference p f (2 * (z * z + k * (t * t))) 0
f_same p k f z t w is_f is_w =
    by_relation _ _ is_f (scaled p (2 * (k * t)) t w is_w) (omega arith)

-- H, where u is the opposite of x, and the square of y stands for s and that of x
h_same : (p s h x y u : ℕ) → IsDifference p h (2 * (y * y) + 2 * (x * u)) 0
    → IsDifference p u 0 x → IsDifference p (y * y) (s + x * x) 0 → IsDifference p h (2 * s) 0
h_same p s h x y u is_h is_u curve =
    let less : IsDifference p h (2 * (y * y)) (2 * (x * x)) =
    by_relation _ _ is_h (turned (scaled p (2 * x) x u is_u)) (omega arith) in
    let both : IsDifference p (2 * (y * y)) (2 * (s + x * x)) 0 =
    restated _ _ (product-is (itself p 2) curve) (omega arith) in
    by_relation _ _ less (turned both) (omega arith)

same_x : (p e f g : ℕ) → IsDifference p e 0 0 → times p (times p e f) 1 ≡ times p 0 (times p f g)
same_x p e f g is_e =
    let left = product-is (times-is is_e (itself p f)) (itself p 1) in
    same left (product-is (itself p 0) (numbers p f g)) (omega arith)

same_y : (p s f g h : ℕ) → IsDifference p f s 0 → IsDifference p h s 0
    → times p (times p g h) 1 ≡ times p 1 (times p f g)
same_y p s f g h is_f is_h =
    let left = product-is (times-is (itself p g) (through is_h (turned is_f))) (itself p 1) in
    same left (product-is (itself p 1) (numbers p f g)) (omega arith)

pub opposite_sum : (p : Point) → IsOnCurve p → IsSamePoint (sum_of p (opposite_of p)) neutral
unfolding sum_of
opposite_sum p on =
    let x = p.x in
    let y = p.y in
    let z = p.z in
    let t = p.t in
    let u = minus prime 0 x in
    let w = minus prime 0 t in
    let x_most : x ≤ prime = let below = on.reduced.x in omega arith in
    let t_most : t ≤ prime = let below = on.reduced.t in omega arith in
    let u_most : u ≤ prime = under (0 + (prime - x)) prime some_prime in
    let is_u = opposite prime x x_most in
    let is_w = opposite prime t t_most in
    let s = z * z + curve_d * (t * t) in
    let curve = square_of_y prime curve_d x y z t some_prime on.equation in
    let e = e_none prime _ x y u (e_is prime x y u y some_prime x_most u_most) is_u in
    let f = f_same prime curve_d _ z t w (f_is prime curve_d z t z w some_prime) is_w in
    let h = h_same prime s _ x y u (h_is prime x y u y x_most u_most) is_u curve in
    record { x = same_x prime _ _ _ e; y = same_y prime (2 * s) _ _ _ f h }
