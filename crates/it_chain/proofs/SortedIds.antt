-- Ids that are sorted and then freed from repeats.
use Rattle.std.proofs.Common.{◌≡◌, ℕ, List, [], ◌∷◌, map, Bool, Bor, Less, nat_cmp, nat_eq}
use Rattle.std.proofs.Common.{Contains, IsPermutation, refl, sym, subst, ◌∙◌}
use Rattle.std.specs.Cmp.Lexicographic.{on_texts, on_texts_equal, pointwise, slice_cmp, texts_ties}
use Rattle.std.specs.List.{AllByRecursion, dedup}
use Rattle.std.specs.List.Sorted.{IsSorted, IsStrictlySortedBy}
use Rattle.std.proofs.lemmas.List.Kept.{Any-dedup, Contains-from_dedup, IsStrictlySortedBy-dedup}
use Rattle.std.proofs.lemmas.List.Sorted.{Contains-permutation, IsPermutation-sym}
use Rattle.std.proofs.lemmas.Slice.Eq.{bytes_eq-Decides}
use Rattle.it_rules.proofs.Listed.{Contains-from_place, Contains-map, Contains-map_cases, place_of}
use Rattle.it_chain.specs.inside.Signers.{AreIds}

abbrev text : Bor (List ℕ) → List ℕ
text x = x.now

abbrev same_text : Bor (List ℕ) → Bor (List ℕ) → Bool
same_text x y = pointwise nat_eq x.now y.now

below_texts : (x : Bor (List ℕ)) (xs : List (Bor (List ℕ)))
    → AllByRecursion (λ y. slice_cmp nat_cmp x.now y.now ≡ Less) xs
    → AllByRecursion (λ t. slice_cmp nat_cmp x.now t ≡ Less) (map text xs)
below_texts x [] h = tt
below_texts x (y ∷ xs) h = (h.0, below_texts x xs h.1)

texts_rise : (xs : List (Bor (List ℕ))) → IsStrictlySortedBy (λ x y. slice_cmp nat_cmp x.now y.now)
    xs → IsStrictlySortedBy (slice_cmp nat_cmp) (map text xs)
unfolding IsStrictlySortedBy
texts_rise [] h = tt
texts_rise (x ∷ xs) h = (below_texts x xs h.0, texts_rise xs h.1)

-- the texts of references are those of other references of which each stands in some way for one of
-- them
module _ (xs ys : List (Bor (List ℕ))) (there : (x : Bor (List ℕ)) → Contains xs x
    → (y : Bor (List ℕ)) × Contains ys y × (y.now ≡ x.now)) where
  among : (t : List ℕ) → Contains (map text xs) t → Contains (map text ys) t
  among t c =
      let x = Contains-map_cases text xs t c in
      let y = there x.1 (Contains-from_place xs x.0 x.1 x.2) in
      let place = place_of ys y.0 y.1 in
      subst (Contains (map text ys)) (y.2 ∙ x.3) (Contains-map text ys place.0 y.0 place.1)

module _ (ids : List (List ℕ)) (texts sorted : List (Bor (List ℕ))) (are : map text texts ≡ ids)
    (moved : IsPermutation texts sorted)
    (rises : IsSorted (λ x y. slice_cmp nat_cmp x.now y.now) sorted) where
  back : (x : Bor (List ℕ)) → Contains (dedup same_text sorted) x → (y : Bor (List ℕ))
      × Contains texts y × (y.now ≡ x.now)
  back x c = (
    x,
    Contains-permutation sorted texts x (IsPermutation-sym texts sorted moved)
        (Contains-from_dedup same_text sorted x c),
    refl,
  )

  there : (x : Bor (List ℕ)) → Contains texts x → (y : Bor (List ℕ))
      × Contains (dedup same_text sorted) y × (y.now ≡ x.now)
  there x c =
      let kept = Any-dedup (on_texts_equal text) sorted x
      (Contains-permutation texts sorted x moved c) in
      (kept.1, (kept.0, kept.2, kept.3), sym ((bytes_eq-Decides x.now kept.1.now).0 kept.4))

  pub sorted_are_ids : AreIds ids (map text (dedup same_text sorted))
  sorted_are_ids = record {
    rises = texts_rise (dedup same_text sorted)
        (IsStrictlySortedBy-dedup (on_texts text) (λ x y. texts_ties x.now y.now) sorted rises);
    same = λ id. (
      λ c. subst (λ xs. Contains xs id) are (among (dedup same_text sorted) texts back id c),
      λ c. among texts (dedup same_text sorted) there id (subst (λ xs. Contains xs id) (sym are) c),
    );
  }
