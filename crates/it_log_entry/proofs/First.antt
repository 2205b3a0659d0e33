-- The first place of a list that passes a test, and what is before and after it.
use Rattle.std.proofs.Common.{◌≡◌, ◌∙◌, ◌+◌, ◌<◌, List, [], ◌∷◌, ◌++◌, Bool, true, false, not}
use Rattle.std.proofs.Common.{Some, None, cond, refl, sym, ap, length, length-append}
use Rattle.std.proofs.Common.{arith, map, nat_lt}
use Rattle.std.specs.List.{All, AllByRecursion, position, position_or_len, prefix_len}
use Rattle.std.proofs.lemmas.Bool.{lt-ltb}
use Rattle.std.proofs.lemmas.List.{get_or_append_left, get_or_at, length-map}
use Rattle.std.proofs.lemmas.List.Elements.{recursion_from_All}
use Rattle.std.proofs.lemmas.List.Sums.{position_or_len_is}

-- the first place is that of the first element that passes
pub first_at : {X : Type 0} (p : X → Bool) (front back : List X) (x : X)
    → All (λ y. p y ≡ false) front → p x ≡ true
    → position p (front ++ x ∷ back) ≡ Some (length front)
first_at p front back x none some =
    let long : length (front ++ x ∷ back) ≡ length front + length (x ∷ back) =
    length-append front (x ∷ back) in
    let below : length front < length (front ++ x ∷ back) = omega arith in
    let is : position_or_len p (front ++ x ∷ back) ≡ length front =
    position_or_len_is p (front ++ x ∷ back) (length front) x (omega arith)
    (λ k less. ap p (get_or_append_left front (x ∷ back) x k less) ∙ none k x less)
    (λ _. ap p (get_or_at front x back x (length front) refl) ∙ some) in
    let test : nat_lt (length front) (length (front ++ x ∷ back)) ≡ true = lt-ltb _ _ below in
    rw (is, test) refl

-- there is a first place where an element passes
pub no_first : {X : Type 0} (p : X → Bool) (xs front back : List X) (x : X)
    → position p xs ≡ None → xs ≡ front ++ x ∷ back → All (λ y. p y ≡ false) front → p x ≡ true → ⊥
no_first p xs front back x is_none is none some =
    let at : position p xs ≡ Some (length front) = ap (position p) is
    ∙ first_at p front back x none some in
    let clash : None ≡ Some (length front) = sym is_none ∙ at in
    cc

both_ways : {X : Type 0} (p : X → Bool) (front back others after : List X) (x y : X)
    → AllByRecursion (λ z. p z ≡ false) front → p x ≡ true
    → AllByRecursion (λ z. p z ≡ false) others → p y ≡ true
    → front ++ x ∷ back ≡ others ++ y ∷ after → (front ≡ others) × (back ≡ after)
both_ways p [] back [] after x y none some no_other other e = (refl, cc)
both_ways p [] back (z ∷ others) after x y none some no_other other e =
    let head : x ≡ z = cc in
    let clash : true ≡ false = sym some ∙ ap p head ∙ no_other.0 in cc
both_ways p (z ∷ front) back [] after x y none some no_other other e =
    let head : y ≡ z = cc in
    let clash : true ≡ false = sym other ∙ ap p head ∙ none.0 in cc
both_ways p (z ∷ front) back (w ∷ others) after x y none some no_other other e =
    let head : z ≡ w = cc in
    let tail : front ++ x ∷ back ≡ others ++ y ∷ after = cc in
    let rest = both_ways p front back others after x y none.1 some no_other.1 other tail in
    (let both : front ≡ others = rest.0 in cc, rest.1)

-- a list is cut at its first place in one way
pub same_cut : {X : Type 0} (p : X → Bool) (front back others after : List X) (x y : X)
    → All (λ z. p z ≡ false) front → p x ≡ true → All (λ z. p z ≡ false) others → p y ≡ true
    → front ++ x ∷ back ≡ others ++ y ∷ after → (front ≡ others) × (back ≡ after)
same_cut p front back others after x y none some no_other other e =
    both_ways p front back others after x y (recursion_from_All _ front none) some
    (recursion_from_All _ others no_other) other e

prefix_map : {X Y : Type 0} (p : Y → Bool) (f : X → Y) (xs : List X)
    → prefix_len p (map f xs) ≡ prefix_len (λ x. p (f x)) xs
prefix_map p f [] = refl
prefix_map p f (x ∷ xs) = ap (λ n. cond (p (f x)) (1 + n) 0) (prefix_map p f xs)

-- the first place among what is shown of elements
pub first_shown : {X Y : Type 0} (p : Y → Bool) (f : X → Y) (xs : List X)
    → position (λ x. p (f x)) xs ≡ position p (map f xs)
first_shown p f xs =
    let same : prefix_len (λ y. not (p y)) (map f xs) ≡ prefix_len (λ x. not (p (f x))) xs =
    prefix_map (λ y. not (p y)) f xs in
    rw (same, length-map xs f) refl
