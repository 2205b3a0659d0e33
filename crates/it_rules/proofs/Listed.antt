-- Elements of lists, by their places.
use Rattle.std.proofs.Common.{subst, ◌≡◌, ◌≢◌, ◌∙◌, inl, inr, ℕ, ◌<◌, ◌+◌, List, map, length}
use Rattle.std.proofs.Common.{Option, Some, None, option_map, sym, ap, refl, arith, Contains}
use Rattle.std.proofs.Common.{AllPairs}
use Rattle.std.specs.List.{slice_get}
use Rattle.std.proofs.lemmas.Bool.{cases_lt}
use Rattle.std.proofs.lemmas.Option.{slice_get-get_or, slice_get_past, slice_get-map}
use Rattle.std.proofs.lemmas.Option.{get_or_from_slice_get}

-- a place that has an element is inside the list
pub slice_get_within : {X : Type 0} (xs : List X) (i : ℕ) (x : X) → slice_get xs i ≡ Some x
    → i < length xs
slice_get_within xs i x e =
    elim (cases_lt i (length xs)) [
      | inl l ↦ l
      | inr g ↦ absurd (let past = slice_get_past xs i g in
          cc (past, e))
    ]

-- one place has one element
pub same_place : {X : Type 0} (xs : List X) {i j : ℕ} {x y : X} → slice_get xs i ≡ Some x
    → slice_get xs j ≡ Some y → i ≡ j → x ≡ y
same_place xs here there same = let e = ap (slice_get xs) same in cc

-- an element stands at some place
pub place_of : {X : Type 0} (xs : List X) (x : X) → Contains xs x → (i : ℕ)
    × (slice_get xs i ≡ Some x)
place_of xs x (i, l, e) = (i, slice_get-get_or xs i x l ∙ ap Some e)

pub Contains-from_place : {X : Type 0} (xs : List X) (i : ℕ) (x : X) → slice_get xs i ≡ Some x
    → Contains xs x
Contains-from_place xs i x e = (i, slice_get_within xs i x e, get_or_from_slice_get xs i x x e)

pub mapped_place : {X Y : Type 0} (f : X → Y) (found : Option X) (y : Y) → option_map f found ≡ Some y
    → (x : X) × (found ≡ Some x) × (f x ≡ y)
mapped_place f None y e = cc e
mapped_place f (Some x) y e = (x, refl, cc e)

-- an element of a list of images is the image of an element
pub Contains-map_cases : {X Y : Type 0} (f : X → Y) (xs : List X) (y : Y) → Contains (map f xs) y
    → (i : ℕ) × (x : X) × (slice_get xs i ≡ Some x) × (f x ≡ y)
Contains-map_cases f xs y h =
    let p = place_of (map f xs) y h in
    let m = mapped_place f (slice_get xs p.0) y (sym (slice_get-map f xs p.0) ∙ p.1) in
    (p.0, m.0, m.1, m.2)

pub Contains-map : {X Y : Type 0} (f : X → Y) (xs : List X) (i : ℕ) (x : X)
    → slice_get xs i ≡ Some x → Contains (map f xs) (f x)
Contains-map f xs i x e = Contains-from_place (map f xs) i (f x) (slice_get-map f xs i
    ∙ ap (option_map f) e)

-- what holds of each element before a place and of the element there
pub places_more : {X : Type 0} (P : X → Type 0) (xs : List X) (i : ℕ) (x : X)
    → ((j : ℕ) (y : X) → j < i → slice_get xs j ≡ Some y → P y) → slice_get xs i ≡ Some x → P x
    → (j : ℕ) (y : X) → j < i + 1 → slice_get xs j ≡ Some y → P y
places_more P xs i x before here p j y l e = elim (cases_lt j i) [
  | inl k ↦ before j y k e
  | inr g ↦ let same : j ≡ i = omega arith in let one : x ≡ y =
      (let h : slice_get xs i ≡ Some y = ap (slice_get xs) (sym same) ∙ e in cc (h, here)) in
      subst P one p
]

-- one name, one element
pub named_once : {X : Type 0} (links : List (List ℕ × X)) (n : List ℕ) (a b : X)
    → AllPairs (λ p q. p.0 ≢ q.0) links → Contains links (n, a) → Contains links (n, b) → a ≡ b
named_once {X = X} links n a b differ in_a in_b =
    let p = place_of links (n, a) in_a in
    let q = place_of links (n, b) in_b in
    let apart : (i j : ℕ) (x y : X) → slice_get links i ≡ Some (n, x)
    → slice_get links j ≡ Some (n, y) → i < j → ⊥ =
    λ i j x y e f l. differ i j (n, x) l (slice_get_within links j (n, y) f)
    (ap (λ r. r.0) (get_or_from_slice_get links i (n, x) (n, x) e)
    ∙ sym (ap (λ r. r.0) (get_or_from_slice_get links j (n, y) (n, x) f))) in
    elim (cases_lt p.0 q.0) [
      | inl l ↦ absurd (apart p.0 q.0 a b p.1 q.1 l)
      | inr g ↦ elim (cases_lt q.0 p.0) [
        | inl l ↦ absurd (apart q.0 p.0 b a q.1 p.1 l)
        | inr h ↦ let same : p.0 ≡ q.0 = omega arith in let at_one : slice_get links q.0 ≡ Some
            (n, a) = ap (slice_get links) (sym same) ∙ p.1 in
            ap (λ r. r.1) (sym (get_or_from_slice_get links q.0 (n, a) (n, a) at_one)
            ∙ get_or_from_slice_get links q.0 (n, b) (n, a) q.1)
      ]
    ]
