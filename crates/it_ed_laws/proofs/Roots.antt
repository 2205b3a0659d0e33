-- The root that decoding takes is one (RFC 8032, section 5.1.3, steps 2 and 3).
use Rattle.std.proofs.Common.{◌≡◌, ℕ, ◌+◌, ◌*◌, ◌/◌, ◌%◌, ◌<◌, ◌≤◌, Bool, true, false, nat_eq}
use Rattle.std.proofs.Common.{if◌then◌else◌, Option, Some, None, refl, sym, subst, arith}
use Rattle.std.specs.Option.{IfSome}
use Rattle.std.proofs.Math.Nat.{mod-add-div'}
use Rattle.std.proofs.lemmas.Nat.{mod_below}
use Rattle.std.proofs.lemmas.Bool.{eqb-true}
use Rattle.it_ed_field.specs.Prime.{prime, minus_mod, times_mod}
use Rattle.it_ed_point.specs.Curve.{root_of_minus_one}
use Rattle.it_ed_point.specs.Encoding.{candidate_root, root_of_ratio}
use Rattle.it_ed_laws.proofs.Numbers.{some_prime}
use Rattle.it_ed_laws.proofs.Differences.{IsDifference, minus, times, itself, restated, opposite}
use Rattle.it_ed_laws.proofs.Differences.{times-is, product-is, numbers, through, tied}

-- x is below the prime, and v times its square is u
pub record IsRoot (u v x : ℕ) : Type 0 where
  pub below : x < prime
  pub root : IsDifference prime (v * (x * x)) u 0

-- what v x ^ 2 is, where it is the number s
square : (p v x a b s : ℕ) → times p v (times p x x) ≡ s → IsDifference p s a b
    → IsDifference p (v * (x * x)) a b
square p v x a b s e is =
    let whole : IsDifference p (times p v (times p x x)) (v * (x * x)) 0 =
    restated _ 0 (times-is (itself p v) (numbers p x x)) (omega arith) in
    tied (subst (λ (n : ℕ). IsDifference p n (v * (x * x)) 0) e whole) is

-- the square of a square root of -1
square_of_root : (p i : ℕ) → (i * i + 1) % p ≡ 0 → IsDifference p (i * i) 0 1
square_of_root p i e =
    let parts : (i * i + 1) % p + (i * i + 1) / p * p ≡ i * i + 1 = mod-add-div' (i * i + 1) p in
    record { above = 0; below = (i * i + 1) / p; is = omega arith }

-- where v x ^ 2 is -u, x times a square root i of -1 is a root
second_root : (p u v x i : ℕ) → u ≤ p → (i * i + 1) % p ≡ 0
    → times p v (times p x x) ≡ minus p 0 u
    → IsDifference p (v * (times p x i * times p x i)) u 0
second_root p u v x i most e h =
    let first : IsDifference p (v * (x * x)) 0 u = square p v x 0 u _ h (opposite p u most) in
    let both : IsDifference p (v * (x * x) * (i * i)) u 0 =
    restated u 0 (product-is first (square_of_root p i e)) (omega arith) in
    let r = numbers p x i in
    let whole : IsDifference p (v * (times p x i * times p x i)) (v * (x * x) * (i * i)) 0 =
    restated _ 0 (product-is (itself p v) (product-is r r)) (omega arith) in
    through whole both

root_of_minus_one-is : (root_of_minus_one * root_of_minus_one + 1) % prime ≡ 0
root_of_minus_one-is = refl

by_second_test : (u v x : ℕ) (t : Bool) → u ≤ prime
    → t ≡ nat_eq (times_mod v (times_mod x x)) (minus_mod 0 u)
    → IfSome (if t then Some (times_mod x root_of_minus_one) else None) (IsRoot u v)
by_second_test u v x true most e =
    let same = eqb-true (times_mod v (times_mod x x)) (minus_mod 0 u) (sym e) in
    record {
      below = mod_below (x * root_of_minus_one) prime some_prime;
      root = second_root prime u v x root_of_minus_one most root_of_minus_one-is same;
    }
by_second_test u v x false most e = tt

by_tests : (u v x : ℕ) (t : Bool) (other : Option ℕ) → x < prime
    → t ≡ nat_eq (times_mod v (times_mod x x)) u → IfSome other (IsRoot u v)
    → IfSome (if t then Some x else other) (IsRoot u v)
by_tests u v x true other below e h =
    let same = eqb-true (times_mod v (times_mod x x)) u (sym e) in
    record { below = below; root = square prime v x u 0 u same (itself prime u) }
by_tests u v x false other below e h = h

candidate_below : (u v : ℕ) → candidate_root u v < prime
unfolding candidate_root
candidate_below u v = mod_below _ prime some_prime

pub root_of_ratio-is : (u v : ℕ) → u ≤ prime → IfSome (root_of_ratio u v) (IsRoot u v)
unfolding root_of_ratio
root_of_ratio-is u v most =
    let x = candidate_root u v in
    by_tests u v x _ _ (candidate_below u v) refl (by_second_test u v x _ most refl)
