-- Elements of lists, and of what is left of lists and made of them.
use Rattle.std.proofs.Common.{◌≡◌, ◌⊎◌, List, [], ◌∷◌, Bool, true, false, cond, Option, Some, None}
use Rattle.std.proofs.Common.{inl, inr, filter, filter_map, Contains, sym, ap, ◌∙◌, arith}
use Rattle.std.specs.List.{cons_option, list_all}
use Rattle.std.proofs.lemmas.Bool.{and_parts, and_cases}
use Rattle.std.proofs.lemmas.List.Elements.{All-contains, All-filter, All-contains_itself}
use Rattle.std.proofs.lemmas.List.Elements.{filter_passes}
pub use Rattle.it_base.proofs.Members.{in_head, in_tail, in_cases, in_none}

-- ---- the elements that pass a test
kept_head : {X : Type 0} (b : Bool) (y : X) (xs : List X) (x : X) → b ≡ true → y ≡ x
    → Contains (cond b (y ∷ xs) xs) x
kept_head true y xs x e same = (0, omega arith, same)
kept_head false y xs x e same = cc

kept_tail : {X : Type 0} (b : Bool) (y : X) (xs : List X) (x : X) → Contains xs x
    → Contains (cond b (y ∷ xs) xs) x
kept_tail true y xs x c = in_tail y xs x c
kept_tail false y xs x c = c

pub in_filter : {X : Type 0} (p : X → Bool) (xs : List X) (x : X) → p x ≡ true → Contains xs x
    → Contains (filter p xs) x
in_filter p [] x passes c = absurd (in_none x c)
in_filter p (y ∷ xs) x passes c = elim (in_cases y xs x c) [
  | inl same ↦ kept_head (p y) y (filter p xs) x (ap p same ∙ passes) same
  | inr later ↦ kept_tail (p y) y (filter p xs) x (in_filter p xs x passes later)
]

pub of_filter : {X : Type 0} (p : X → Bool) (xs : List X) (x : X) → Contains (filter p xs) x
    → (p x ≡ true) × Contains xs x
of_filter p xs x c = (
  All-contains (λ y. p y ≡ true) (filter p xs) x (filter_passes p xs) c,
  All-contains (Contains xs) (filter p xs) x
      (All-filter p (Contains xs) xs (All-contains_itself xs)) c,
)

-- ---- what a function gives of the elements
given_head : {Y : Type 0} (o : Option Y) (ys : List Y) (y : Y) → o ≡ Some y
    → Contains (cons_option o ys) y
given_head None ys y e = cc
given_head (Some z) ys y e = (0, omega arith, cc e)

given_tail : {Y : Type 0} (o : Option Y) (ys : List Y) (y : Y) → Contains ys y
    → Contains (cons_option o ys) y
given_tail None ys y c = c
given_tail (Some z) ys y c = in_tail z ys y c

given_cases : {Y : Type 0} (o : Option Y) (ys : List Y) (y : Y) → Contains (cons_option o ys) y
    → (o ≡ Some y) ⊎ Contains ys y
given_cases None ys y c = inr c
given_cases (Some z) ys y c = elim (in_cases z ys y c) [
  | inl same ↦ inl (ap Some same)
  | inr later ↦ inr later
]

pub in_filter_map : {X Y : Type 0} (h : X → Option Y) (xs : List X) (x : X) (y : Y) → h x ≡ Some y
    → Contains xs x → Contains (filter_map h xs) y
in_filter_map h [] x y gives c = absurd (in_none x c)
in_filter_map h (z ∷ xs) x y gives c = elim (in_cases z xs x c) [
  | inl same ↦ given_head (h z) (filter_map h xs) y (ap h same ∙ gives)
  | inr later ↦ given_tail (h z) (filter_map h xs) y (in_filter_map h xs x y gives later)
]

pub of_filter_map : {X Y : Type 0} (h : X → Option Y) (xs : List X) (y : Y)
    → Contains (filter_map h xs) y → (x : X) × (h x ≡ Some y) × Contains xs x
of_filter_map h [] y c = absurd (in_none y c)
of_filter_map h (z ∷ xs) y c = elim (given_cases (h z) (filter_map h xs) y c) [
  | inl here ↦ (z, here, in_head z xs)
  | inr later ↦ let found = of_filter_map h xs y later in
      (found.0, found.1, in_tail z xs found.0 found.2)
]

-- ---- a test that all elements pass, or not
pub all_pass : {X : Type 0} (p : X → Bool) (xs : List X) (x : X) → list_all p xs ≡ true
    → Contains xs x → p x ≡ true
all_pass p [] x all c = absurd (in_none x c)
all_pass p (y ∷ xs) x all c =
    let parts = and_parts (p y) (list_all p xs) all in
    elim (in_cases y xs x c) [
      | inl same ↦ ap p (sym same) ∙ parts.0
      | inr later ↦ all_pass p xs x parts.1 later
    ]

pub some_fails : {X : Type 0} (p : X → Bool) (xs : List X) → list_all p xs ≡ false → (x : X)
    × (p x ≡ false) × Contains xs x
some_fails p [] e = cc
some_fails p (y ∷ xs) e = elim (and_cases (p y) (list_all p xs) e) [
  | inl here ↦ (y, here, in_head y xs)
  | inr later ↦ let found = some_fails p xs later in
      (found.0, found.1, in_tail y xs found.0 found.2)
]
