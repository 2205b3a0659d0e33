-- The greatest number of the elements of a list, one element more.
use Rattle.std.proofs.Common.{◌≡◌, ◌⊎◌, ◌∙◌, ◌+◌, ◌++◌, ◌<◌, ◌≤◌, ℕ, List, [], ◌∷◌, length, take}
use Rattle.std.proofs.Common.{get_or, max, Option, Some, None, inl, inr, Contains, sym, ap}
use Rattle.std.proofs.Common.{subst, arith}
use Rattle.std.specs.Option.{option_map_or}
use Rattle.std.proofs.lemmas.List.{take_more}
use Rattle.std.proofs.lemmas.List.Elements.{Contains-append_left, Contains-push}
use Rattle.std.proofs.lemmas.List.Elements.{Contains-push_cases}
use Rattle.std.proofs.lemmas.Bool.Decides.{leb_tells}
use Rattle.it_prov.specs.Best.{IsGreatest}
use Rattle.it_prov.specs.inside.Judged.{OfSome}

module _ {X : Type 0} (R : X → ℕ → Type 0) (xs : List X) (i : ℕ) (x : X) (below : i < length xs)
    (here : x ≡ get_or xs i x) where
  one_more : take (i + 1) xs ≡ take i xs ++ x ∷ []
  one_more = take_more xs i x below ∙ ap (λ z. take i xs ++ z ∷ []) (sym here)

  earlier : (n : ℕ) → OfSome R (take i xs) n → OfSome R (take (i + 1) xs) n
  earlier n h = rw one_more (h.0, Contains-append_left (take i xs) (x ∷ []) h.0 h.1, h.2)

  itself : (n : ℕ) → R x n → OfSome R (take (i + 1) xs) n
  itself n r = rw one_more (x, Contains-push (take i xs) x, r)

  cases : (n : ℕ) → OfSome R (take (i + 1) xs) n → OfSome R (take i xs) n ⊎ R x n
  cases n h =
      let c : Contains (take i xs ++ x ∷ []) h.0 = subst (λ ys. Contains ys h.0) one_more h.1 in
      elim (Contains-push_cases (take i xs) x h.0 c) [
        | inl before ↦ inl (h.0, before, h.2)
        | inr same ↦ inr (subst (λ y. R y n) (sym same) h.2)
      ]

  -- an element that has none
  pub none_more : (best : Option ℕ) → IsGreatest (OfSome R (take i xs)) best
      → ((n : ℕ) → ¬ R x n) → IsGreatest (OfSome R (take (i + 1) xs)) best
  none_more None h none = λ n of. elim (cases n of) [
    | inl before ↦ h n before
    | inr last ↦ none n last
  ]
  none_more (Some best) h none = (
    earlier best h.0,
    λ n of. elim (cases n of) [
      | inl before ↦ h.1 n before
      | inr last ↦ absurd (none n last)
    ],
  )

  -- an element that has this one alone
  module _ (level : ℕ) (has : R x level) (alone : (n : ℕ) → R x n → n ≡ level) where
    level_highest : (best : ℕ) → ((n : ℕ) → OfSome R (take i xs) n → n ≤ best) → best ≤ level
        → IsGreatest (OfSome R (take (i + 1) xs)) (Some level)
    level_highest best most less = (
      itself level has,
      λ n of. elim (cases n of) [
        | inl before ↦ let below_best = most n before in omega (arith, below_best, less)
        | inr last ↦ let same = alone n last in omega (arith, same)
      ],
    )

    best_highest : (best : ℕ) → OfSome R (take i xs) best
        → ((n : ℕ) → OfSome R (take i xs) n → n ≤ best) → level ≤ best
        → IsGreatest (OfSome R (take (i + 1) xs)) (Some best)
    best_highest best of_best most less = (
      earlier best of_best,
      λ n of. elim (cases n of) [
        | inl before ↦ most n before
        | inr last ↦ let same = alone n last in omega (arith, same, less)
      ],
    )

    pub one_greater : (best : Option ℕ) (now : ℕ) → IsGreatest (OfSome R (take i xs)) best
        → now ≡ option_map_or (max level) best level
        → IsGreatest (OfSome R (take (i + 1) xs)) (Some now)
    one_greater None now h is = subst (λ n. IsGreatest (OfSome R (take (i + 1) xs)) (Some n))
        (sym is) (
          itself level has,
          λ n of. elim (cases n of) [
            | inl before ↦ absurd (h n before)
            | inr last ↦ let same = alone n last in omega (arith, same)
          ],
        )
    one_greater (Some best) now h is = elim (leb_tells level best) [
      | inl less ↦
          let same : best ≡ now = let order = less.1 in omega (arith, order, is) in
          subst (λ n. IsGreatest (OfSome R (take (i + 1) xs)) (Some n)) same
          (best_highest best h.0 h.1 less.1)
      | inr more ↦
          let same : level ≡ now = let order = more.1 in omega (arith, order, is) in
          let less : best ≤ level = let order = more.1 in omega (arith, order) in
          subst (λ n. IsGreatest (OfSome R (take (i + 1) xs)) (Some n)) same
          (level_highest best h.1 less)
    ]
