-- Decoded points are on the curve (RFC 8032, section 5.1.3).
use Rattle.std.proofs.Common.{◌≡◌, ℕ, ◌+◌, ◌-◌, ◌*◌, ◌/◌, ◌%◌, ◌^◌, ◌<◌, ◌≤◌, Bool, true, false}
use Rattle.std.proofs.Common.{nat_eq, nat_lt, if◌then◌else◌, Option, Some, None, List, refl, sym}
use Rattle.std.proofs.Common.{arith, lit<}
use Rattle.std.specs.Option.{IfSome, option_and_then}
use Rattle.std.proofs.lemmas.Nat.{mod_below}
use Rattle.std.proofs.lemmas.Bool.{ltb-true}
use Rattle.it_numbers.specs.Bytes.{little}
use Rattle.it_numbers.specs.Modular.{number_below}
use Rattle.it_ed_field.specs.Prime.{prime, plus_mod, minus_mod, times_mod}
use Rattle.it_ed_point.specs.Curve.{affine, curve_d}
use Rattle.it_ed_point.specs.Encoding.{decoded, point_at, root_of_ratio, signed, signed_point}
use Rattle.it_ed_point.specs.declared.point.Point.{Point}
use Rattle.it_ed_laws.specs.OnCurve.{IsOnCurve}
use Rattle.it_ed_laws.proofs.Numbers.{some_prime, under}
use Rattle.it_ed_laws.proofs.Differences.{IsDifference, plus, minus, times, itself, restated}
use Rattle.it_ed_laws.proofs.Differences.{plus-is, minus-is, times-is, product-is, numbers}
use Rattle.it_ed_laws.proofs.Differences.{opposite, through, tied, by_relation, same_remainders}
use Rattle.it_ed_laws.proofs.Equation.{left_side}
use Rattle.it_ed_laws.proofs.Roots.{IsRoot, root_of_ratio-is}

-- what a decoded point is
pub record IsDecoded (p : Point) : Type 0 where
  pub on : IsOnCurve p
  pub affine : p.z ≡ 1

-- what holds of what each value of a kind leads to holds in the end
then_holds : {A B : Type 0} (P : B → Type 0) (f : A → Option B) (o : Option A) (Q : A → Type 0)
    → IfSome o Q → ((x : A) → Q x → IfSome (f x) P) → IfSome (option_and_then f o) P
then_holds P f None Q q h = tt
then_holds P f (Some x) Q q h = h x q

-- a root, its sign turned or not
signed_below : (x : ℕ) (t : Bool) → x < prime → (if t then x else minus_mod 0 x) < prime
signed_below x true h = h
signed_below x false h = mod_below (0 + (prime - x)) prime some_prime

signed_square : (p x : ℕ) (t : Bool) → x ≤ p
    → IsDifference p ((if t then x else minus p 0 x) * (if t then x else minus p 0 x)) (x * x) 0
signed_square p x true h = itself p (x * x)
signed_square p x false h =
    restated _ _ (product-is (opposite p x h) (opposite p x h)) (omega arith)

-- u is y ^ 2 - 1, and v is k y ^ 2 + 1, of the constant k, which is d
numerator : (p y : ℕ) → 1 ≤ p → IsDifference p (minus p (times p y y) 1) (y * y) 1
numerator p y h = restated _ _ (minus-is h (numbers p y y) (itself p 1)) (omega arith)

denominator : (p k y : ℕ)
    → IsDifference p (plus p (times p k (times p y y)) 1) (k * (y * y) + 1) 0
denominator p k y =
    restated _ _ (plus-is (times-is (itself p k) (numbers p y y)) (itself p 1)) (omega arith)

-- a root s fits the curve's equation
fits : (p k s y u v : ℕ) → IsDifference p (v * (s * s)) u 0 → IsDifference p u (y * y) 1
    → IsDifference p v (k * (y * y) + 1) 0
    → IsDifference p ((k * (y * y) + 1) * (s * s)) (y * y) 1
fits p k s y u v root is_u is_v =
    let whole : IsDifference p (v * (s * s)) ((k * (y * y) + 1) * (s * s)) 0 =
    restated _ _ (product-is is_v (itself p (s * s))) (omega arith) in
    tied whole (through root is_u)

equation : (p k s y : ℕ) → 0 < p → IsDifference p ((k * (y * y) + 1) * (s * s)) (y * y) 1
    → minus p (times p y y) (times p s s)
    ≡ plus p (times p 1 1) (times p k (times p (times p s y) (times p s y)))
equation p k s y some h =
    let t = numbers p s y in
    let left : IsDifference p (minus p (times p y y) (times p s s)) (1 + k * (s * y * (s * y))) 0 =
    by_relation _ _ (left_side p s y some) h (omega arith) in
    let right = plus-is (numbers p 1 1) (times-is (itself p k) (times-is t t)) in
    same_remainders _ _ left right (omega arith)

product : (p s y : ℕ) → times p s y ≡ times p 1 (times p s y)
product p s y =
    let t = numbers p s y in
    same_remainders _ _ t (times-is (itself p 1) t) (omega arith)

affine_decoded : (s y : ℕ) → s < prime → y < prime
    → IsDifference prime ((curve_d * (y * y) + 1) * (s * s)) (y * y) 1 → IsDecoded (affine s y)
affine_decoded s y s_below y_below h = record {
  on = record {
    reduced = record {
      x = s_below;
      y = y_below;
      z = lit< tt;
      t = mod_below (s * y) prime some_prime;
    };
    finite = λ none. cc;
    equation = equation prime curve_d s y some_prime h;
    product = product prime s y;
  };
  affine = refl;
}

-- the point of a root, unless its sign does not fit
chosen_decoded : (s y : ℕ) (t : Bool) → IsDecoded (affine s y)
    → IfSome (if t then None else Some (affine s y)) IsDecoded
chosen_decoded s y true h = tt
chosen_decoded s y false h = h

signed_point_decoded : (x y sign u v : ℕ) → y < prime → IsRoot u v x
    → IsDifference prime u (y * y) 1 → IsDifference prime v (curve_d * (y * y) + 1) 0
    → IfSome (signed_point x y sign) IsDecoded
unfolding signed_point
signed_point_decoded x y sign u v y_below r is_u is_v =
    let s = signed x sign in
    let most : x ≤ prime = let below = r.below in omega arith in
    let square : IsDifference prime (s * s) (x * x) 0 =
    signed_square prime x (nat_eq (x % 2) sign) most in
    let turned : IsDifference prime (v * (s * s)) (v * (x * x)) 0 =
    restated _ _ (product-is (itself prime v) square) (omega arith) in
    let root : IsDifference prime (v * (s * s)) u 0 = through turned r.root in
    let fit = fits prime curve_d s y u v root is_u is_v in
    chosen_decoded s y _ (affine_decoded s y (signed_below x _ r.below) y_below fit)

point_at_decoded : (y sign : ℕ) → y < prime → IfSome (point_at y sign) IsDecoded
unfolding point_at
point_at_decoded y sign below =
    let u = minus_mod (times_mod y y) 1 in
    let v = plus_mod (times_mod curve_d (times_mod y y)) 1 in
    let is_u = numerator prime y some_prime in
    let is_v = denominator prime curve_d y in
    let most = under (times_mod y y + (prime - 1)) prime some_prime in
    then_holds IsDecoded (λ (x : ℕ). signed_point x y sign) (root_of_ratio u v) (IsRoot u v)
    (root_of_ratio-is u v most)
    (λ x root. signed_point_decoded x y sign u v below root is_u is_v)

number_below-is : (limit n : ℕ) (t : Bool) → t ≡ nat_lt n limit
    → IfSome (if t then Some n else None) (λ m. m < limit)
number_below-is limit n true e = ltb-true n limit (sym e)
number_below-is limit n false e = tt

pub all_decoded : (bytes : List ℕ) → IfSome (decoded bytes) IsDecoded
unfolding decoded
all_decoded bytes =
    let n = little bytes % 2 ^ 255 in
    let sign = little bytes / 2 ^ 255 % 2 in
    then_holds IsDecoded (λ (y : ℕ). point_at y sign) (number_below prime n) (λ y. y < prime)
    (number_below-is prime n _ refl) (λ y below. point_at_decoded y sign below)
