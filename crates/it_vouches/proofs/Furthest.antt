-- The furthest of what is missed, one element after another.
use Rattle.std.proofs.Common.{◌≡◌, ℕ, ◌+◌, ◌<◌, ◌≤◌, List, [], ◌∷◌, ◌++◌, length, get_or, take, Any, ◌⊎◌, inl, inr, refl, sym, ap, subst, ◌∙◌, arith}
use Rattle.std.proofs.lemmas.List.{take_all, take_more}
use Rattle.std.proofs.lemmas.List.Elements.{Contains-append_left, Contains-append_cases}
use Rattle.std.proofs.lemmas.List.Quantifiers.{Any-push}
use Rattle.it_vouches.specs.Furthest.{IsFurthest, IsMissedByOne}
use Rattle.it_vouches.specs.inside.Further.{IsFurther}
use Rattle.it_vouches.proofs.Loops.{any_of_contains, contains_cases, contains_none, contains_of_any}

-- one element more
pub front : {X : Type 0} (xs : List X) (i : ℕ) (x : X) → i < length xs → x ≡ get_or xs i x → take (i + 1) xs ≡ take i xs ++ x ∷ []
front {X = X} xs i x below is = take_more xs i x below ∙ ap (λ (z : X). take i xs ++ z ∷ []) (sym is)

any_left : {X : Type 0} (P : X → Type 0) (xs ys : List X) → Any P xs → Any P (xs ++ ys)
any_left P xs ys any =
    any_of_contains P (xs ++ ys) any.1 (Contains-append_left xs ys any.1 (contains_of_any P xs any)) any.4

any_cases : {X : Type 0} (P : X → Type 0) (xs : List X) (x : X) → Any P (xs ++ x ∷ []) → Any P xs ⊎ P x
any_cases P xs x any =
    elim (Contains-append_cases xs (x ∷ []) any.1 (contains_of_any P (xs ++ x ∷ []) any)) [
      | inl before ↦ inl (any_of_contains P xs any.1 before any.4)
      | inr last ↦
          elim (contains_cases x any.1 [] last) [
            | inl same ↦ inr (subst P (sym same) any.4)
            | inr none ↦ absurd (contains_none any.1 none)
          ]
    ]

module _ {X S : Type 0} (first : S) (Misses : X → S → Type 0) (xs : List X) where
  -- one of the elements misses it, or of one more
  pub missed_left : (ys : List X) (s : S) → IsMissedByOne first Misses xs s → IsMissedByOne first Misses (xs ++ ys) s
  missed_left ys s (inl is) = inl is
  missed_left ys s (inr any) = inr (any_left (λ x. Misses x s) xs ys any)

  pub missed_last : (x : X) (s new : S) (m : S) → IsMissedByOne first Misses xs s → Misses x m → (new ≡ s) ⊎ (new ≡ m)
      → IsMissedByOne first Misses (xs ++ x ∷ []) new
  missed_last x s new m before is (inl e) = subst (IsMissedByOne first Misses (xs ++ x ∷ [])) (sym e) (missed_left (x ∷ []) s before)
  missed_last x s new m before is (inr e) =
      subst (IsMissedByOne first Misses (xs ++ x ∷ [])) (sym e) (inr (Any-push (λ y. Misses y m) xs x is))

  module _ (place : S → ℕ) (x : X) (s m new : S) (before : IsFurthest place (IsMissedByOne first Misses xs) s) (is : Misses x m)
      (only : (t : S) → Misses x t → m ≡ t) (further : IsFurther place s m new) where
    up_to : (t : S) → IsMissedByOne first Misses (xs ++ x ∷ []) t → place t ≤ place new
    up_to t (inl e) = let low = before.furthest t (inl e) in let high = further.up_to_one in omega (arith, low, high)
    up_to t (inr any) =
        elim (any_cases (λ y. Misses y t) xs x any) [
          | inl some ↦ let low = before.furthest t (inr some) in let high = further.up_to_one in omega (arith, low, high)
          | inr here ↦ subst (λ (z : S). place z ≤ place new) (only t here) further.up_to_other
        ]

    furthest_push : IsFurthest place (IsMissedByOne first Misses (xs ++ x ∷ [])) new
    furthest_push = record { is_missed = missed_last x s new m before.is_missed is further.is_either; furthest = up_to }

-- none of no elements misses anything
none_but_first : {X S : Type 0} (place : S → ℕ) (first : S) (Misses : X → S → Type 0) (t : S) → IsMissedByOne first Misses [] t
    → place t ≤ place first
none_but_first {S = S} place first Misses t (inl e) = subst (λ (z : S). place t ≤ place z) e (omega arith)
none_but_first place first Misses t (inr any) = absurd (contains_none any.1 (contains_of_any (λ x. Misses x t) [] any))

pub furthest_first : {X S : Type 0} (place : S → ℕ) (first : S) (Misses : X → S → Type 0) → IsFurthest place (IsMissedByOne first Misses []) first
furthest_first place first Misses = record { is_missed = inl refl; furthest = none_but_first place first Misses }

pub furthest_next : {X S : Type 0} (place : S → ℕ) (first : S) (Misses : X → S → Type 0) (xs : List X) (i : ℕ) (x : X) (s m new : S)
    → i < length xs → x ≡ get_or xs i x → IsFurthest place (IsMissedByOne first Misses (take i xs)) s → Misses x m
    → ((t : S) → Misses x t → m ≡ t) → IsFurther place s m new → IsFurthest place (IsMissedByOne first Misses (take (i + 1) xs)) new
furthest_next {X = X} place first Misses xs i x s m new below here before is only further =
    subst (λ (l : List X). IsFurthest place (IsMissedByOne first Misses l) new) (sym (front xs i x below here))
    (furthest_push first Misses (take i xs) place x s m new before is only further)

pub furthest_all : {X S : Type 0} (place : S → ℕ) (first : S) (Misses : X → S → Type 0) (xs : List X) (i : ℕ) (s : S) → length xs ≤ i
    → IsFurthest place (IsMissedByOne first Misses (take i xs)) s → IsFurthest place (IsMissedByOne first Misses xs) s
furthest_all {X = X} place first Misses xs i s end is =
    subst (λ (l : List X). IsFurthest place (IsMissedByOne first Misses l) s) (take_all i xs end) is
