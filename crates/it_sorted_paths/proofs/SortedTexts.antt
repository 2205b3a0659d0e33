-- Values that are sorted by a text of theirs, and then freed from repeats.
use Rattle.std.proofs.Common.{◌≡◌, ◌∙◌, ◌↔◌, ℕ, List, [], ◌∷◌, Bool, true, false, cond}
use Rattle.std.proofs.Common.{Contains, IsPermutation, map, nat_cmp, nat_eq, refl}
use Rattle.std.proofs.Common.{sym, subst}
use Rattle.std.specs.Cmp.Lexicographic.{pointwise, slice_cmp, texts_ties}
use Rattle.std.specs.Cmp.Lexicographic.{nat_list_cmp_total, nat_list_eq_equiv}
use Rattle.std.specs.List.{dedup, dedup_from}
use Rattle.std.specs.List.Sorted.{IsSortedBy, IsStrictlySortedBy}
use Rattle.std.specs.Ordering.{is_lt}
use Rattle.std.proofs.lemmas.List.Kept.{Contains-dedup, Contains-from_dedup}
use Rattle.std.proofs.lemmas.List.Kept.{IsStrictlySortedBy-dedup}
use Rattle.std.proofs.lemmas.List.Sorted.{Contains-permutation, IsPermutation-map}
use Rattle.std.proofs.lemmas.List.Sorted.{IsPermutation-sym}
use Rattle.std.proofs.lemmas.Slice.Eq.{bytes_eq-Decides}
use Rattle.it_base.proofs.Elements.{sorted_map}

module _ {X Y : Type 0} (f : X → Y) (same : Y → Y → Bool) where
  map_either : (b : Bool) (xs ys : List X) → map f (cond b xs ys) ≡ cond b (map f xs) (map f ys)
  map_either true xs ys = refl
  map_either false xs ys = refl

  -- what is left of values after one of them is what is left of their texts after its text
  map_dedup_from : (k : X) (xs : List X)
      → map f (dedup_from (λ x y. same (f x) (f y)) k xs) ≡ dedup_from same (f k) (map f xs)
  map_dedup_from k [] = refl
  map_dedup_from k (x ∷ xs) =
      map_either (same (f x) (f k)) (dedup_from (λ x y. same (f x) (f y)) k xs)
      (k ∷ dedup_from (λ x y. same (f x) (f y)) x xs)
      ∙ rw (map_dedup_from k xs, map_dedup_from x xs) refl

  map_dedup : (xs : List X)
      → map f (dedup (λ x y. same (f x) (f y)) xs) ≡ dedup same (map f xs)
  map_dedup [] = refl
  map_dedup (x ∷ xs) = map_dedup_from x xs

-- the texts of sorted values that are freed from repeats
module _ {X : Type 0} (f : X → List ℕ) (given sorted : List X) (moved : IsPermutation given sorted)
    (rises : IsSortedBy (λ x y. is_lt (slice_cmp nat_cmp (f x) (f y))) sorted) where
  abbrev left : List X
  left = dedup (λ x y. pointwise nat_eq (f x) (f y)) sorted

  pub texts_rise : IsStrictlySortedBy (slice_cmp nat_cmp) (map f left)
  texts_rise =
      subst (IsStrictlySortedBy (slice_cmp nat_cmp)) (sym (map_dedup f (pointwise nat_eq) sorted))
      (IsStrictlySortedBy-dedup nat_list_cmp_total texts_ties (map f sorted)
      (sorted_map f (λ a b. is_lt (slice_cmp nat_cmp a b)) sorted rises))

  shuffled : IsPermutation (map f given) (map f sorted)
  shuffled = IsPermutation-map f given sorted moved

  pub same_texts : (text : List ℕ) → Contains (map f left) text ↔ Contains (map f given) text
  same_texts text =
      let kept = map_dedup f (pointwise nat_eq) sorted in (
        λ c. Contains-permutation (map f sorted) (map f given) text
            (IsPermutation-sym (map f given) (map f sorted) shuffled)
            (Contains-from_dedup (pointwise nat_eq) (map f sorted) text
            (subst (λ texts. Contains texts text) kept c)),
        λ c. subst (λ texts. Contains texts text) (sym kept)
            (Contains-dedup nat_list_eq_equiv (λ x y. (bytes_eq-Decides x y).0) (map f sorted) text
            (Contains-permutation (map f given) (map f sorted) text shuffled c)),
      )
