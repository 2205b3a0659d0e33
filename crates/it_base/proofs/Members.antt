-- Elements of lists: the head, and those of the tail.
use Rattle.std.proofs.Common.{◌≡◌, ◌⊎◌, zero, suc, List, [], ◌∷◌, inl, inr, Contains, refl, arith}

pub in_head : {X : Type 0} (x : X) (xs : List X) → Contains (x ∷ xs) x
in_head x xs = (0, omega arith, refl)

pub in_tail : {X : Type 0} (y : X) (xs : List X) (x : X) → Contains xs x → Contains (y ∷ xs) x
in_tail y xs x c = (suc c.0, omega (arith, c.1), c.2)

pub in_cases : {X : Type 0} (y : X) (xs : List X) (x : X) → Contains (y ∷ xs) x → (y ≡ x)
    ⊎ Contains xs x
in_cases y xs x (zero, below, e) = inl e
in_cases y xs x (suc k, below, e) = inr (k, omega (arith, below), e)

pub in_none : {X : Type 0} (x : X) → ¬ Contains [] x
in_none x c = absurd (omega (arith, c.1))

-- ---- lists that are equal have equal heads and tails
pub head_same : {X : Type 0} (x y : X) (xs ys : List X) → x ∷ xs ≡ y ∷ ys → x ≡ y
head_same x y xs ys e = cc

pub tail_same : {X : Type 0} (x y : X) (xs ys : List X) → x ∷ xs ≡ y ∷ ys → xs ≡ ys
tail_same x y xs ys e = cc
