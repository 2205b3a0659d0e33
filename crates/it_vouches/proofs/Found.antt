-- What is found one after another.
use Rattle.std.proofs.Common.{◌≡◌, ℕ, ◌+◌, ◌<◌, ◌≤◌, List, [], ◌∷◌, ◌++◌, length, get_or, take}
use Rattle.std.proofs.Common.{Option, Some, None, MatchOption, refl, sym, ap, subst, ◌∙◌, inl, inr, append-nil}
use Rattle.std.specs.List.{Contains, cons_option}
use Rattle.std.proofs.lemmas.List.{take_all, take_more}
use Rattle.it_vouches.specs.Found.{AreFound}
use Rattle.it_vouches.proofs.Loops.{contains_cases, contains_first, contains_later, contains_none}

none_more : {X Y : Type 0} (IsNone : X → Type 0) (Is : X → Y → Type 0) (xs : List X) (x : X) (ys : List Y) → AreFound IsNone Is xs ys
    → IsNone x → AreFound IsNone Is (xs ++ x ∷ []) ys
none_more IsNone Is [] x ys are none = inl (none, are)
none_more IsNone Is (z ∷ zs) x ys (inl p) none = inl (p.0, none_more IsNone Is zs x ys p.1 none)
none_more IsNone Is (z ∷ zs) x ys (inr p) none = inr (record {
  first = p.first;
  rest = p.rest;
  found_are = p.found_are;
  first_is = p.first_is;
  rest_are = none_more IsNone Is zs x p.rest p.rest_are none;
})

one_more : {X Y : Type 0} (IsNone : X → Type 0) (Is : X → Y → Type 0) (xs : List X) (x : X) (ys : List Y) (y : Y) → AreFound IsNone Is xs ys
    → Is x y → AreFound IsNone Is (xs ++ x ∷ []) (ys ++ y ∷ [])
one_more {Y = Y} IsNone Is [] x ys y are is = inr (record {
  first = y;
  rest = [];
  found_are = ap (λ (l : List Y). l ++ y ∷ []) are;
  first_is = is;
  rest_are = refl;
})
one_more IsNone Is (z ∷ zs) x ys y (inl p) is = inl (p.0, one_more IsNone Is zs x ys y p.1 is)
one_more {Y = Y} IsNone Is (z ∷ zs) x ys y (inr p) is = inr (record {
  first = p.first;
  rest = p.rest ++ y ∷ [];
  found_are = ap (λ (l : List Y). l ++ y ∷ []) p.found_are;
  first_is = p.first_is;
  rest_are = one_more IsNone Is zs x p.rest y p.rest_are is;
})

-- one more element, of which something is found or nothing
pub found_more : {X Y : Type 0} (IsNone : X → Type 0) (Is : X → Y → Type 0) (xs : List X) (x : X) (ys : List Y) (found : Option Y)
    → AreFound IsNone Is xs ys → MatchOption found (IsNone x) (λ y. Is x y)
    → AreFound IsNone Is (xs ++ x ∷ []) (ys ++ cons_option found [])
found_more IsNone Is xs x ys None are is =
    subst (AreFound IsNone Is (xs ++ x ∷ [])) (sym (append-nil ys)) (none_more IsNone Is xs x ys are is)
found_more IsNone Is xs x ys (Some y) are is = one_more IsNone Is xs x ys y are is

pub found_at : {X Y : Type 0} (IsNone : X → Type 0) (Is : X → Y → Type 0) (xs : List X) (i : ℕ) (x : X) (old new : List Y) (found : Option Y)
    → i < length xs → x ≡ get_or xs i x → AreFound IsNone Is (take i xs) old → MatchOption found (IsNone x) (λ y. Is x y)
    → new ≡ old ++ cons_option found [] → AreFound IsNone Is (take (i + 1) xs) new
found_at {X = X} IsNone Is xs i x old new found below is before read after =
    let front : take (i + 1) xs ≡ take i xs ++ x ∷ [] =
    take_more xs i x below ∙ ap (λ (z : X). take i xs ++ z ∷ []) (sym is) in
    subst (λ (l : List X). AreFound IsNone Is l new) (sym front)
    (subst (AreFound IsNone Is (take i xs ++ x ∷ [])) (sym after) (found_more IsNone Is (take i xs) x old found before read))

pub all_found : {X Y : Type 0} (IsNone : X → Type 0) (Is : X → Y → Type 0) (xs : List X) (i : ℕ) (ys : List Y) → length xs ≤ i
    → AreFound IsNone Is (take i xs) ys → AreFound IsNone Is xs ys
all_found {X = X} IsNone Is xs i ys end are = subst (λ (l : List X). AreFound IsNone Is l ys) (take_all i xs end) are

-- each is found of an element, and each element of which there is one is among those of which it is found
pub record IsOf {X Y : Type 0} (Is : X → Y → Type 0) (xs : List X) (y : Y) : Type 0 where
  pub element : X
  pub among : Contains xs element
  pub is : Is element y

pub found_of : {X Y : Type 0} (IsNone : X → Type 0) (Is : X → Y → Type 0) (xs : List X) (ys : List Y) (y : Y) → AreFound IsNone Is xs ys
    → Contains ys y → IsOf Is xs y
found_of {Y = Y} IsNone Is [] ys y are c = absurd (contains_none y (subst (λ (l : List Y). Contains l y) are c))
found_of IsNone Is (x ∷ xs) ys y (inl p) c =
    let before = found_of IsNone Is xs ys y p.1 c in
    record { element = before.element; among = contains_later x before.element xs before.among; is = before.is }
found_of {Y = Y} IsNone Is (x ∷ xs) ys y (inr p) c =
    elim (contains_cases p.first y p.rest (subst (λ (l : List Y). Contains l y) p.found_are c)) [
      | inl same ↦ record { element = x; among = contains_first x xs; is = subst (Is x) same p.first_is }
      | inr later ↦
          let before = found_of IsNone Is xs p.rest y p.rest_are later in
          record { element = before.element; among = contains_later x before.element xs before.among; is = before.is }
    ]

pub record IsAmong {X Y : Type 0} (Is : X → Y → Type 0) (x : X) (ys : List Y) : Type 0 where
  pub found : Y
  pub among : Contains ys found
  pub is : Is x found

pub of_found : {X Y : Type 0} (IsNone : X → Type 0) (Is : X → Y → Type 0) (xs : List X) (ys : List Y) (x : X) → AreFound IsNone Is xs ys
    → Contains xs x → ¬ IsNone x → IsAmong Is x ys
of_found IsNone Is [] ys x are c some = absurd (contains_none x c)
of_found IsNone Is (z ∷ zs) ys x (inl p) c some =
    elim (contains_cases z x zs c) [
      | inl same ↦ absurd (some (subst IsNone same p.0))
      | inr later ↦ of_found IsNone Is zs ys x p.1 later some
    ]
of_found {Y = Y} IsNone Is (z ∷ zs) ys x (inr p) c some =
    elim (contains_cases z x zs c) [
      | inl same ↦ record {
        found = p.first;
        among = subst (λ (l : List Y). Contains l p.first) (sym p.found_are) (contains_first p.first p.rest);
        is = subst (λ z. Is z p.first) same p.first_is;
      }
      | inr later ↦
          let after = of_found IsNone Is zs p.rest x p.rest_are later some in
          record {
            found = after.found;
            among = subst (λ (l : List Y). Contains l after.found) (sym p.found_are)
                (contains_later p.first after.found p.rest after.among);
            is = after.is;
          }
    ]
