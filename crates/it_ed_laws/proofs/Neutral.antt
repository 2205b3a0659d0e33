-- Sums with the neutral point: each part of them is twice a coordinate of the other point.
use Rattle.std.proofs.Common.{◌≡◌, ℕ, ◌*◌, ◌≤◌, arith}
use Rattle.it_ed_field.specs.Prime.{prime}
use Rattle.it_ed_point.specs.Curve.{curve_d, neutral, sum_of}
use Rattle.it_ed_point.specs.declared.point.Point.{Point}
use Rattle.it_ed_laws.specs.OnCurve.{IsReduced, IsSamePoint}
use Rattle.it_ed_laws.proofs.Numbers.{some_prime}
use Rattle.it_ed_laws.proofs.Differences.{IsDifference, times, itself, restated}
use Rattle.it_ed_laws.proofs.Differences.{times-is, product-is, same}
use Rattle.it_ed_laws.proofs.Sums.{e_is, f_is, g_is, h_is}

-- E F beside Z is X beside F G
same_x : (p x z e f g : ℕ) → IsDifference p e (2 * x) 0 → IsDifference p f (2 * z) 0
    → IsDifference p g (2 * z) 0 → times p (times p e f) z ≡ times p x (times p f g)
same_x p x z e f g is_e is_f is_g =
    let left = product-is (times-is is_e is_f) (itself p z) in
    let right = product-is (itself p x) (times-is is_f is_g) in
    same left right (omega arith)

-- G H beside Z is Y beside F G
same_y : (p y z f g h : ℕ) → IsDifference p f (2 * z) 0 → IsDifference p g (2 * z) 0
    → IsDifference p h (2 * y) 0 → times p (times p g h) z ≡ times p y (times p f g)
same_y p y z f g h is_f is_g is_h =
    let left = product-is (times-is is_g is_h) (itself p z) in
    let right = product-is (itself p y) (times-is is_f is_g) in
    same left right (omega arith)

pub neutral_after : (p : Point) → IsReduced p → IsSamePoint (sum_of p neutral) p
unfolding sum_of
neutral_after p reduced =
    let most : p.x ≤ prime = let below = reduced.x in omega arith in
    let none : 0 ≤ prime = omega arith in
    let e = restated (2 * p.x) 0 (e_is prime p.x p.y 0 1 some_prime most none) (omega arith) in
    let f = restated (2 * p.z) 0 (f_is prime curve_d p.z p.t 1 0 some_prime) (omega arith) in
    let g = restated (2 * p.z) 0 (g_is prime curve_d p.z p.t 1 0) (omega arith) in
    let h = restated (2 * p.y) 0 (h_is prime p.x p.y 0 1 most none) (omega arith) in
    record { x = same_x prime p.x p.z _ _ _ e f g; y = same_y prime p.y p.z _ _ _ f g h }

pub neutral_before : (p : Point) → IsReduced p → IsSamePoint (sum_of neutral p) p
unfolding sum_of
neutral_before p reduced =
    let most : p.x ≤ prime = let below = reduced.x in omega arith in
    let none : 0 ≤ prime = omega arith in
    let e = restated (2 * p.x) 0 (e_is prime 0 1 p.x p.y some_prime none most) (omega arith) in
    let f = restated (2 * p.z) 0 (f_is prime curve_d 1 0 p.z p.t some_prime) (omega arith) in
    let g = restated (2 * p.z) 0 (g_is prime curve_d 1 0 p.z p.t) (omega arith) in
    let h = restated (2 * p.y) 0 (h_is prime 0 1 p.x p.y none most) (omega arith) in
    record { x = same_x prime p.x p.z _ _ _ e f g; y = same_y prime p.y p.z _ _ _ f g h }
