-- The two sides of the curve's equation (RFC 8032, section 5.1.4).
use Rattle.std.proofs.Common.{◌≡◌, ℕ, ◌+◌, ◌*◌, ◌<◌, subst, arith}
use Rattle.it_ed_laws.proofs.Numbers.{under}
use Rattle.it_ed_laws.proofs.Differences.{IsDifference, plus, minus, times, itself, restated}
use Rattle.it_ed_laws.proofs.Differences.{plus-is, minus-is, times-is, numbers, turned, by_relation}

pub left_side : (p x y : ℕ) → 0 < p
    → IsDifference p (minus p (times p y y) (times p x x)) (y * y) (x * x)
left_side p x y some =
    restated _ _ (minus-is (under _ p some) (numbers p y y) (numbers p x x)) (omega arith)

-- of the constant k, which is d
pub right_side : (p k z t : ℕ)
    → IsDifference p (plus p (times p z z) (times p k (times p t t))) (z * z + k * (t * t)) 0
right_side p k z t =
    let last = times-is (itself p k) (numbers p t t) in
    restated _ _ (plus-is (numbers p z z) last) (omega arith)

-- what the square of y stands for on the curve
pub square_of_y : (p k x y z t : ℕ) → 0 < p
    → minus p (times p y y) (times p x x) ≡ plus p (times p z z) (times p k (times p t t))
    → IsDifference p (y * y) (z * z + k * (t * t) + x * x) 0
square_of_y p k x y z t some e =
    let right = plus p (times p z z) (times p k (times p t t)) in
    let both : IsDifference p right (y * y) (x * x) =
    subst (λ (n : ℕ). IsDifference p n (y * y) (x * x)) e (left_side p x y some) in
    by_relation _ _ (turned both) (turned (right_side p k z t)) (omega arith)
