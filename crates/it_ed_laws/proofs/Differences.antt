-- Numbers that stand for a difference modulo p, through sums, differences and products.
use Rattle.std.proofs.Common.{◌≡◌, ℕ, ◌+◌, ◌-◌, ◌*◌, ◌/◌, ◌%◌, ◌≤◌, sym, ◌∙◌, arith}
use native.Mathlib.Nat.{mod-mod}
use Rattle.it_ed_laws.proofs.Numbers.{same_remainder, remainder, sum, difference, product}

-- modulo p, x is the difference of a and b
pub record IsDifference (p x a b : ℕ) : Type 0 where
  pub above : ℕ
  pub below : ℕ
  pub is : x + b + above * p ≡ a + below * p

abbrev pub plus : ℕ → ℕ → ℕ → ℕ
plus p x y = (x + y) % p

abbrev pub minus : ℕ → ℕ → ℕ → ℕ
minus p x y = (x + (p - y)) % p

abbrev pub times : ℕ → ℕ → ℕ → ℕ
times p x y = (x * y) % p

-- a number stands for itself
pub itself : (p x : ℕ) → IsDifference p x x 0
itself p x = record { above = 0; below = 0; is = omega arith }

-- the same difference of other numbers
pub restated : {p x a b : ℕ} (c d : ℕ) → IsDifference p x a b → a + d ≡ c + b → IsDifference p x c d
restated c d h e =
    let is = h.is in
    record { above = h.above; below = h.below; is = omega arith }

reduced : {p x a b : ℕ} → IsDifference p x a b → IsDifference p (x % p) a b
reduced {p} {x} {a} {b} h =
    record { above = h.above + x / p; below = h.below; is = remainder p x a b h.above h.below h.is }

pub plus-is : {p x y a b c d : ℕ} → IsDifference p x a b → IsDifference p y c d
    → IsDifference p (plus p x y) (a + c) (b + d)
plus-is {p} {x} {y} {a} {b} {c} {d} h k =
    let whole : IsDifference p (x + y) (a + c) (b + d) = record {
      above = h.above + k.above;
      below = h.below + k.below;
      is = sum p x y a b c d h.above h.below k.above k.below h.is k.is;
    } in
    reduced whole

pub minus-is : {p x y a b c d : ℕ} → y ≤ p → IsDifference p x a b → IsDifference p y c d
    → IsDifference p (minus p x y) (a + d) (b + c)
minus-is {p} {x} {y} {a} {b} {c} {d} most h k =
    let whole : IsDifference p (x + (p - y)) (a + d) (b + c) = record {
      above = h.above + k.below;
      below = h.below + k.above + 1;
      is = difference p x y a b c d h.above h.below k.above k.below most h.is k.is;
    } in
    reduced whole

-- a product that is not reduced
pub product-is : {p x y a b c d : ℕ} → IsDifference p x a b → IsDifference p y c d
    → IsDifference p (x * y) (a * c + b * d) (a * d + b * c)
product-is {p} {x} {y} {a} {b} {c} {d} h k = record {
  above = a * k.above + h.below * d + h.below * k.above * p
      + (b * k.below + h.above * c + h.above * k.below * p);
  below = a * k.below + h.below * c + h.below * k.below * p
      + (b * k.above + h.above * d + h.above * k.above * p);
  is = product p x y a b c d h.above h.below k.above k.below h.is k.is;
}

pub times-is : {p x y a b c d : ℕ} → IsDifference p x a b → IsDifference p y c d
    → IsDifference p (times p x y) (a * c + b * d) (a * d + b * c)
times-is h k = reduced (product-is h k)

-- the product of two numbers
pub numbers : (p x y : ℕ) → IsDifference p (times p x y) (x * y) 0
numbers p x y = restated _ _ (times-is (itself p x) (itself p y)) (omega arith)

pub opposite : (p x : ℕ) → x ≤ p → IsDifference p (minus p 0 x) 0 x
opposite p x h = restated 0 x (minus-is h (itself p 0) (itself p x)) (omega arith)

-- a number that is modulo p the number that another is stands for what that one does
pub through : {p x y a b : ℕ} → IsDifference p x y 0 → IsDifference p y a b → IsDifference p x a b
through {p} {x} {y} {a} {b} h k =
    let one = h.is in
    let other = k.is in
    record { above = h.above + k.above; below = h.below + k.below; is = omega arith }

-- what a number stands for by itself and otherwise is the same modulo p
pub tied : {p x y a b : ℕ} → IsDifference p x y 0 → IsDifference p x a b → IsDifference p y a b
tied {p} {x} {y} {a} {b} h k =
    let one = h.is in
    let other = k.is in
    record { above = h.below + k.above; below = h.above + k.below; is = omega arith }

-- the first part of a difference, by the number and the second part
pub turned : {p x a b : ℕ} → IsDifference p x a b → IsDifference p a (x + b) 0
turned {p} {x} {a} {b} h =
    let one = h.is in
    record { above = h.below; below = h.above; is = omega arith }

-- a difference restated by what a number u stands for
pub by_relation : {p x a b u v w : ℕ} (c d : ℕ) → IsDifference p x a b → IsDifference p u v w
    → a + d + u + w ≡ c + b + v → IsDifference p x c d
by_relation {p} {x} {a} {b} {u} {v} {w} c d h k e =
    let one = h.is in
    let other = k.is in
    record { above = h.above + k.below; below = h.below + k.above; is = omega arith }

-- a number that is twice another
pub twice : {p x y a b c d : ℕ} → IsDifference p x a b → IsDifference p y c d
    → a + 2 * d ≡ 2 * c + b → IsDifference p x (2 * y) 0
twice {p} {x} {y} {a} {b} {c} {d} h k e =
    let one = h.is in
    let other = k.is in
    record { above = h.above + 2 * k.below; below = h.below + 2 * k.above; is = omega arith }

-- a number that is the opposite of twice another
pub twice_opposite : {p x y a b c d : ℕ} → IsDifference p x a b → IsDifference p y c d
    → a + 2 * c ≡ b + 2 * d → IsDifference p x 0 (2 * y)
twice_opposite {p} {x} {y} {a} {b} {c} {d} h k e =
    let one = h.is in
    let other = k.is in
    record { above = h.above + 2 * k.above; below = h.below + 2 * k.below; is = omega arith }

-- what stands for the same difference is the same modulo p
pub same : {p x y a b c d : ℕ} → IsDifference p x a b → IsDifference p y c d → a + d ≡ c + b
    → x % p ≡ y % p
same {p} {x} {y} {a} {b} {c} {d} h k e =
    let one = h.is in
    let other = k.is in
    same_remainder p x y (h.above + k.below) (k.above + h.below) (omega arith)

-- the same of remainders
pub same_remainders : {p a b c d : ℕ} (x y : ℕ) → IsDifference p (x % p) a b
    → IsDifference p (y % p) c d → a + d ≡ c + b → x % p ≡ y % p
same_remainders {p} x y h k e = sym (mod-mod x p) ∙ same h k e ∙ mod-mod y p
